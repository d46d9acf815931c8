-- A topology is sound with the cables with which its fabric is up.
use Rattle.std.proofs.Common.{ℕ, ◌≡◌, ◌==◌, ◌&&◌, ◌||◌, not, ◌∙◌, ap, cond, refl, sym, subst, Bool, true, false, List, [], ◌∷◌, flat_map, slice_get, Some, option_map, arith}
use Rattle.std.specs.List.{AllByRecursion, IsDistinct, list_all, list_any}
use Rattle.std.proofs.Math.Bool.{or-true}
use Rattle.std.proofs.lemmas.Bool.{and_from, and_parts, eq-eqb, eqb-true, or_from, or_parts}
use Rattle.std.proofs.lemmas.List.{append-nil, length-map}
use Rattle.std.proofs.lemmas.Map.Keys.{IsDistinct-cons, IsDistinct-tail}
use Rattle.std.proofs.lemmas.Option.{get_or_from_slice_get, none-some, same_Some, slice_get-map}
use Rattle.fabric_parts.specs.Cable.{ends_at, far_end, is_same_port, port}
use Rattle.fabric_parts.specs.declared.cable.Cable.{Cable}
use Rattle.fabric_parts.specs.declared.cable.PortRef.{PortRef}
use Rattle.fabric_wire.proofs.CutLemmas.{Free, apart}
use Rattle.fabric_wire.proofs.OfTopologyLemmas.{nodes_from, port_there, switch_there}
use Rattle.fabric_wire.specs.OfTopology.{fabric_of}
use Rattle.step_results.proofs.ListLemmas.{IsDistinct-nil}
use Rattle.updn_routes.proofs.OfFabricLemmas.{within_rows}
use Rattle.smp_wire.proofs.CableLemmas.{far_end_before, ports_turn, same_port}
use Rattle.smp_wire.specs.FabricState.{is_switch_at}
use Rattle.smp_wire.specs.Good.{IsGood, ends_of, is_right}
use Rattle.subnet_fabric.proofs.RecabledPowerUpLemmas.{was_good}
use Rattle.subnet_fabric.specs.Recabled.{WhatIsUpIsSound, with_cables}
use Rattle.sweep.proofs.FoundLemmas.{among_place, any_at, any_by, place_is}
use Rattle.sweep.proofs.WholeLemmas.{found_there}
use Rattle.sweep.specs.Graph.{GraphState}
use Rattle.sweep.specs.Joined.{AllJoined, is_next_to, is_walk_by}
use Rattle.sweep.specs.OfFabric.{Found, IsGraphOf, nodes_of, row_of as fabric_row}
use Rattle.sweep.specs.declared.graph.GraphLink.{GraphLink}
use Rattle.table_push.proofs.RowLemmas.{linked}
use Rattle.topo_file.specs.Connectivity.{Joined, joins}
use Rattle.topo_file.specs.Node.{is_switch_at as is_planned_at}
use Rattle.topo_file.specs.Sound.{ends_at_ports, joins_right, shares_port}
use Rattle.topo_file.specs.Topology.{TopologyState}
use Rattle.topo_file.specs.declared.node.Node.{Node as PlannedNode}
use Rattle.updn_routes.specs.Cabling.{leads}
use Rattle.updn_routes.specs.Subnet.{link_of, row_of, rows_of}
use Rattle.updn_routes.specs.declared.link.Link.{Link}

-- ---- cables
-- the cable of a port joins its node and the one where it leads
far_joins : (cables : List Cable) (at there : PortRef) → far_end cables at ≡ Some there → list_any (λ cable. joins at.node there.node cable) cables ≡ true
far_joins [] at there far = absurd (none-some there far)
far_joins (cable ∷ cables) at there far =
    by (is_same_port cable.first at) refl (is_same_port cable.second at) refl (far_end_before cable cables at ∙ far) (λ is. far_joins cables at there is)
  where
    forth : (one two : PortRef) → one ≡ at → two ≡ there → ((one.node == at.node) && (two.node == there.node)) ≡ true
    forth one two is is_too =
        and_from _ _ (eq-eqb one.node at.node (ap (λ (p : PortRef). p.node) is)) (eq-eqb two.node there.node (ap (λ (p : PortRef). p.node) is_too))

    back : (one two : PortRef) → one ≡ there → two ≡ at → ((one.node == there.node) && (two.node == at.node)) ≡ true
    back one two is is_too =
        and_from _ _ (eq-eqb one.node there.node (ap (λ (p : PortRef). p.node) is)) (eq-eqb two.node at.node (ap (λ (p : PortRef). p.node) is_too))

    by : (first : Bool) → is_same_port cable.first at ≡ first → (second : Bool) → is_same_port cable.second at ≡ second
        → cond first (Some cable.second) (cond second (Some cable.first) (far_end cables at)) ≡ Some there
        → (far_end cables at ≡ Some there → list_any (λ cable. joins at.node there.node cable) cables ≡ true)
        → list_any (λ cable. joins at.node there.node cable) (cable ∷ cables) ≡ true
    by true first second other is later =
        rw (forth cable.first cable.second (same_port cable.first at first) (same_Some cable.second there is)) refl
    by false first true second is later =
        rw (back cable.first cable.second (same_Some cable.first there is) (same_port cable.second at second), or-true ((cable.first.node == at.node) && (cable.second.node == there.node))) refl
    by false first false second is later = rw (later is) (or-true (joins at.node there.node cable))

-- right cables end at ports, and join right nodes
right_sound : (built : List Cable) (nodes : List PlannedNode) (cables : List Cable) → list_all (is_right (nodes_from built 0 nodes)) cables ≡ true
    → (list_all (ends_at_ports nodes) cables ≡ true) × (list_all (joins_right nodes) cables ≡ true)
right_sound built nodes [] all = (refl, refl)
right_sound built nodes (cable ∷ cables) all =
    let parts = and_parts (is_right (nodes_from built 0 nodes) cable) _ all in
    let first = and_parts _ _ parts.0 in
    let second = and_parts _ _ first.1 in
    let rest = right_sound built nodes cables parts.1 in
    let ends : ends_at_ports nodes cable ≡ true =
    and_from _ _ (sym (port_there built nodes cable.first) ∙ first.0) (sym (port_there built nodes cable.second) ∙ second.0) in
    let kinds : joins_right nodes cable ≡ true =
    (λ i. not (cable.first.node == cable.second.node)
    && (sym (switch_there built nodes cable.first.node) i || sym (switch_there built nodes cable.second.node) i)) ∙ second.1 in
    (and_from (ends_at_ports nodes cable) _ ends rest.0, and_from (joins_right nodes cable) _ kinds rest.1)

none_share : (one two : PortRef) (cables : List Cable) → Free one cables → Free two cables
    → AllByRecursion (λ other. (ends_at one other || ends_at two other) ≡ false) cables
none_share one two [] free free_too = tt
none_share one two (cable ∷ cables) free free_too =
    let first = or_parts (is_same_port one cable.first) _ free in
    let second = or_parts (is_same_port one cable.second) _ first.1 in
    let first_too = or_parts (is_same_port two cable.first) _ free_too in
    let second_too = or_parts (is_same_port two cable.second) _ first_too.1 in
    let none : (at : PortRef) → is_same_port at cable.first ≡ false → is_same_port at cable.second ≡ false → ends_at at cable ≡ false =
    λ at a b. or_from (is_same_port cable.first at) _ (ports_turn cable.first at ∙ a) (ports_turn cable.second at ∙ b) in (
      or_from (ends_at one cable) _ (none one first.0 second.0) (none two first_too.0 second_too.0),
      none_share one two cables second.1 second_too.1,
    )

own_ports : (cables : List Cable) → IsDistinct is_same_port (flat_map ends_of cables) → IsDistinct shares_port cables
own_ports [] own = IsDistinct-nil shares_port
own_ports (cable ∷ cables) own =
    let free = apart [] cables cable own in
    IsDistinct-cons shares_port cable cables (none_share cable.first cable.second cables free.first free.second)
    (own_ports cables (IsDistinct-tail is_same_port cable.second _ (IsDistinct-tail is_same_port cable.first _ own)))

-- ---- walks
-- by some port of the one switch the other is next
leading : (graph : GraphState) (place next : ℕ) (row : List GraphLink) → slice_get graph.rows place ≡ Some row → is_next_to graph.rows place next ≡ true
    → (out : ℕ) × (leads (rows_of graph) place out next ≡ true)
leading graph place next row there is_next =
    let link = any_at (λ (link : GraphLink). link.to.node == next) row
    (ap (list_any (λ (link : GraphLink). link.to.node == next)) (sym (get_or_from_slice_get graph.rows place row [] there)) ∙ is_next) in
    let links = get_or_from_slice_get (rows_of graph) place (row_of row) [] (slice_get-map row_of graph.rows place ∙ ap (option_map row_of) there) in
    let own : slice_get (row_of row) link.place ≡ Some (link_of link.one) = slice_get-map link_of row link.place ∙ ap (option_map link_of) link.there in (
      link.one.port,
      ap (list_any (λ (one : Link). (one.port == link.one.port) && (one.to == next))) links
          ∙ any_by (λ (one : Link). (one.port == link.one.port) && (one.to == next)) (row_of row) link.place (link_of link.one) own
          (and_from _ _ (eq-eqb link.one.port link.one.port refl) link.passes),
    )

module _ (plan : TopologyState) (graph : GraphState) (of : IsGraphOf graph (fabric_of plan)) where
  abbrev nodes : List ℕ
  nodes = nodes_of of.layout.found

  planned : (place node : ℕ) → slice_get nodes place ≡ Some node → is_switch_at (fabric_of plan).nodes node ≡ true → is_planned_at plan.nodes node ≡ true
  planned place node there switch = sym (switch_there plan.cables plan.nodes node) ∙ switch

  record GoesOn (node next : ℕ) : Type 0 where
    there : ℕ
    stands : slice_get nodes next ≡ Some there
    switch : is_switch_at (fabric_of plan).nodes there ≡ true
    joined : list_any (λ cable. joins node there cable) plan.cables ≡ true

  goes_on : (place node next : ℕ) → slice_get nodes place ≡ Some node → is_next_to graph.rows place next ≡ true → GoesOn node next
  goes_on place node next there is_next =
      let found = found_there of.layout.found place node there in
      let row = fabric_row (fabric_of plan) nodes found.0.node in
      let stands_row : slice_get graph.rows place ≡ Some row =
      ap (λ (rows : List (List GraphLink)). slice_get rows place) of.layout.rows
      ∙ slice_get-map (λ (one : Found). fabric_row (fabric_of plan) nodes one.node) of.layout.found place
      ∙ ap (option_map (λ (one : Found). fabric_row (fabric_of plan) nodes one.node)) found.1 in
      let out = leading graph place next row stands_row is_next in
      let is = linked (fabric_of plan) graph place out.0 next found.0 of found.1 out.1 in
      let at = among_place nodes is.there.node (of.layout.all is.there.node ∙ is.switch) in
      let same : at.0 ≡ next = sym (place_is nodes at.0 is.there.node of.layout.once at.1) ∙ is.place in
      record {
        there = is.there.node;
        stands = subst (λ (k : ℕ). slice_get nodes k ≡ Some is.there.node) same at.1;
        switch = is.switch;
        joined = ap (λ (k : ℕ). list_any (λ cable. joins k is.there.node cable) plan.cables) (sym found.2)
            ∙ far_joins plan.cables (port found.0.node out.0) is.there is.cable;
      }

  walked : (place end : ℕ) (steps : List ℕ) (a b : ℕ) → slice_get nodes place ≡ Some a → slice_get nodes end ≡ Some b
      → is_switch_at (fabric_of plan).nodes a ≡ true → is_walk_by (is_next_to graph.rows) place steps end ≡ true → Joined plan.nodes plan.cables a b
  walked place end [] a b from to switch walks =
      let same : a ≡ b = same_Some a b (sym from ∙ ap (slice_get nodes) (eqb-true place end walks) ∙ to) in
      ([], and_from _ _ (planned place a from switch) (eq-eqb a b same))
  walked place end (next ∷ steps) a b from to switch walks =
      let parts = and_parts (is_next_to graph.rows place next) _ walks in
      let step = goes_on place a next from parts.0 in
      let rest = walked next end steps step.there b step.stands to step.switch parts.1 in
      (step.there ∷ rest.0, and_from _ _ (planned place a from switch) (and_from _ _ step.joined rest.1))

  connected : AllJoined graph.rows → (a b : ℕ) → is_planned_at plan.nodes a ≡ true → is_planned_at plan.nodes b ≡ true → Joined plan.nodes plan.cables a b
  connected all a b is is_too =
      let switch = switch_there plan.cables plan.nodes a ∙ is in
      let from = among_place nodes a (of.layout.all a ∙ switch) in
      let to = among_place nodes b (of.layout.all b ∙ switch_there plan.cables plan.nodes b ∙ is_too) in
      let many = length-map graph.rows row_of in
      let low = within_rows (fabric_of plan) graph of.layout from.0 a from.1 in
      let low_too = within_rows (fabric_of plan) graph of.layout to.0 b to.1 in
      let way = all from.0 to.0 (omega (arith, low, many)) (omega (arith, low_too, many)) in
      walked from.0 to.0 way.0 a b from.1 to.1 switch way.1

pub what_is_up_is_sound : WhatIsUpIsSound
what_is_up_is_sound plan cabling roots keys routes fabric sound up =
    let now = with_cables cabling.cables plan in
    let good : IsGood (fabric_of now) = was_good routes keys now up.set_up.pushed.linear.good in
    let right : list_all (is_right (fabric_of now).nodes) cabling.cables ≡ true =
    ap (list_all (is_right (fabric_of now).nodes)) (sym (append-nil cabling.cables)) ∙ good.cables in
    let cables = right_sound cabling.cables plan.nodes cabling.cables right in
    record {
      lines = record {
        names = sound.lines.names;
        own_names = sound.lines.own_names;
        guids = sound.lines.guids;
        own_guids = sound.lines.own_guids;
        sizes = sound.lines.sizes;
        limits = sound.lines.limits;
        ends = cables.0;
        joins = cables.1;
        own_ports = own_ports cabling.cables
            (subst (λ (all : List Cable). IsDistinct is_same_port (flat_map ends_of all)) (append-nil cabling.cables) good.once);
      };
      connected = connected now routes.graph up.set_up.are.found.of up.set_up.are.found.joined;
      roots = record { switches = sound.roots.switches; own = sound.roots.own };
      manager_port = sound.manager_port;
      manager_cabled = good.manager_cabled;
    }
