-- The entries for the LID of each port of a channel adapter lead to it, from the switch of each such port.
use Rattle.std.proofs.Common.{ℕ, zero, suc, ◌≡◌, ◌≢◌, ◌-◌, ◌≤◌, ◌<◌, ◌==◌, ◌&&◌, ◌∙◌, ap, refl, sym, subst, not, Bool, true, false, if◌then◌else◌, List, [], ◌∷◌, ◌++◌, length, map, slice_get, Option, Some, None, option_map, unwrap_or, arith}
use Rattle.std.specs.List.{IsDistinct}
use Rattle.std.specs.Option.{option_map_or}
use Rattle.std.proofs.lemmas.Bool.{and_from, and_parts, eq-eqb, eqb-true, false≢true}
use Rattle.std.proofs.lemmas.Bool.Decides.{nat_tests}
use Rattle.std.proofs.lemmas.Option.{none-some, same_Some, slice_get-map, slice_get_within}
use Rattle.fabric_parts.specs.Cable.{far_end, port}
use Rattle.fabric_parts.specs.declared.cable.PortRef.{PortRef}
use Rattle.lid_assign.specs.Lids.{adapter_end, end_ports, guid_in, lid_in, switch_end}
use Rattle.lid_assign.proofs.LawLemmas.{lids_and_guids_name_each_other}
use Rattle.smp_wire.specs.Forwards.{Follows, IsCabledPort, Leads, entry_at}
use Rattle.pkey_rules.specs.declared.end_port.EndPort.{EndPort}
use Rattle.port_model.specs.AdapterState.{AdapterState}
use Rattle.step_results.proofs.ListLemmas.{all_have}
use Rattle.subnet_model.specs.EndPorts.{lid_of}
use Rattle.smp_wire.proofs.CableLemmas.{far_is_port}
use Rattle.smp_wire.specs.FabricState.{FabricState, is_switch_at}
use Rattle.sweep.specs.OfFabric.{Found, nodes_of, place_of as found_place, switch_of}
use Rattle.sweep.specs.declared.graph.GraphSwitch.{GraphSwitch}
use Rattle.sweep.proofs.FoundLemmas.{among_place, any_by, place_is}
use Rattle.sweep.proofs.LeastLemmas.{in_range}
use Rattle.sweep.proofs.WholeLemmas.{found_there}
use Rattle.updn_routes.specs.Cabling.{is_walk, leads}
use Rattle.updn_routes.specs.Choice.{follows, is_route}
use Rattle.updn_routes.specs.Routes.{IsPair, IsRouted, LeadsToLid, carries, home_of, next_hop, order_of}
use Rattle.updn_routes.specs.Subnet.{RoutesState, home_in, homes_of, rows_of}
use Rattle.updn_routes.specs.UpDown.{is_legal}
use Rattle.table_push.specs.BroughtUp.{IsBroughtUp, RoutesLeadHome}
use Rattle.table_push.proofs.EntryLemmas.{entry_there}
use Rattle.table_push.proofs.HomeLemmas.{home_at, home_there, port_home, switch_home}
use Rattle.table_push.proofs.RowLemmas.{linked, row_within}
use Rattle.table_push.proofs.AttachmentLemmas.{IsAttached, attached}
use Rattle.smp_wire.proofs.PresentLemmas.{present_right}

-- ---- homes
lid_within : (lids : List ℕ) (lid guid : ℕ) → guid_in lids lid ≡ Some guid → lid ≤ length lids
lid_within lids lid guid named = by (lid == 0) refl named
  where
    by : (b : Bool) → (lid == 0) ≡ b → (if b then None else slice_get lids (lid - 1)) ≡ Some guid → lid ≤ length lids
    by true is named = absurd (none-some guid named)
    by false is named = let within = slice_get_within lids (lid - 1) guid named in omega (arith, within)

pub lid_place : (lids : List ℕ) (guid lid : ℕ) → IsDistinct (λ a b. a == b) lids → lid_in lids guid ≡ Some lid → lid - 1 < length lids
lid_place lids guid lid own is = by (lid == 0) refl ((lids_and_guids_name_each_other lids guid lid own).0 is)
  where
    by : (b : Bool) → (lid == 0) ≡ b → (if b then None else slice_get lids (lid - 1)) ≡ Some guid → lid - 1 < length lids
    by true is named = absurd (none-some guid named)
    by false is named = slice_get_within lids (lid - 1) guid named

switch_first : (switches : List GraphSwitch) (more : List EndPort) (k : ℕ) (one : GraphSwitch) → slice_get switches k ≡ Some one
    → slice_get (map switch_end switches ++ more) k ≡ Some (switch_end one)
switch_first [] more k one there = absurd (none-some one there)
switch_first (other ∷ switches) more zero one there = ap (λ (s : GraphSwitch). Some (switch_end s)) (same_Some other one there)
switch_first (other ∷ switches) more (suc k) one there = switch_first switches more k one there

module _ (routes : RoutesState) (keys : List (List ℕ)) (fabric : FabricState) (home : RoutesLeadHome routes) (up : IsBroughtUp routes keys fabric) where
  abbrev homes : List PortRef
  homes = homes_of routes.graph routes.lids

  -- ---- along next hops
  entry_of : (place lid number : ℕ) (found : Found) (here : PortRef) → slice_get up.graph.layout.found place ≡ Some found → found.node ≡ here.node
      → lid ≤ length routes.lids → next_hop routes.between place lid ≡ Some number → entry_at fabric.nodes here.node lid ≡ Some number
  entry_of place lid number found here stands node within hop =
      ap (λ (n : ℕ). entry_at fabric.nodes n lid) (sym node) ∙ entry_there routes keys fabric home up place lid found stands within
      ∙ ap (λ (o : Option ℕ). Some (unwrap_or o 255)) hop

  record IsFoundAt (place node : ℕ) : Type 0 where
    found : Found
    there : slice_get up.graph.layout.found place ≡ Some found
    node_is : found.node ≡ node

  found_at_place : (place node : ℕ) → is_switch_at fabric.nodes node ≡ true → found_place (nodes_of up.graph.layout.found) node ≡ place → IsFoundAt place node
  found_at_place place node switch is =
      let at = among_place (nodes_of up.graph.layout.found) node (up.graph.layout.all node ∙ switch) in
      let same : at.0 ≡ place = sym (place_is (nodes_of up.graph.layout.found) at.0 node up.graph.layout.once at.1) ∙ is in
      let found = found_there up.graph.layout.found at.0 node at.1 in
      record { found = found.0; there = ap (slice_get up.graph.layout.found) (sym same) ∙ found.1; node_is = found.2 }

  record Steps (lid place t : ℕ) : Type 0 where
    out : ℕ
    hop : next_hop routes.between place lid ≡ Some out
    leading : leads (rows_of routes.graph) place out t ≡ true

  step_by : (lid place t : ℕ) (hop : Option ℕ) → next_hop routes.between place lid ≡ hop
      → option_map_or (λ port. leads routes.between.rows place port t) hop false ≡ true → Steps lid place t
  step_by lid place t None is follow = absurd (false≢true follow)
  step_by lid place t (Some out) is follow =
      record { out = out; hop = is; leading = ap (λ (rows : _). leads rows place out t) (sym home.of.rows_are) ∙ follow }

  record IsEnd (lid d number : ℕ) (at : PortRef) : Type 0 where
    last : Found
    there : slice_get up.graph.layout.found d ≡ Some last
    cable : far_end fabric.cables (port last.node number) ≡ Some at
    hop : next_hop routes.between d lid ≡ Some number
    within : lid ≤ length routes.lids

  follow : (lid d number : ℕ) (at : PortRef) (steps : List ℕ) (place : ℕ) (found : Found) (here : PortRef) → IsEnd lid d number at
      → slice_get up.graph.layout.found place ≡ Some found → found.node ≡ here.node
      → is_route routes.between.rows (λ t. next_hop routes.between t lid) place steps d ≡ true
      → (way : List PortRef) × Follows fabric.nodes fabric.cables lid here way at
  follow lid d number at [] place found here end stands node route =
      let same = eqb-true place d route in
      let one : found ≡ end.last = same_Some found end.last (sym stands ∙ ap (slice_get up.graph.layout.found) same ∙ end.there) in
      let leads_on : Leads fabric.nodes fabric.cables lid here at =
      record {
        out = number;
        entry = entry_of place lid number found here stands node end.within (ap (λ (s : ℕ). next_hop routes.between s lid) same ∙ end.hop);
        cable = ap (λ (n : ℕ). far_end fabric.cables (port n number)) (sym node ∙ ap (λ (f : Found). f.node) one) ∙ end.cable;
      } in
      (at ∷ [], (leads_on, refl))
  follow lid d number at (t ∷ steps) place found here end stands node route =
      let rest = (and_parts (not (place == d)) _ route).1 in
      let parts = and_parts (follows routes.between.rows (λ s. next_hop routes.between s lid) place t) _ rest in
      let step = step_by lid place t (next_hop routes.between place lid) refl parts.0 in
      let link = linked fabric routes.graph place step.out t found up.graph stands step.leading in
      let next = found_at_place t link.there.node link.switch link.place in
      let on = follow lid d number at steps t next.found link.there end next.there next.node_is parts.1 in
      let leads_on : Leads fabric.nodes fabric.cables lid here link.there =
      record {
        out = step.out;
        entry = entry_of place lid step.out found here stands node end.within step.hop;
        cable = ap (λ (n : ℕ). far_end fabric.cables (port n step.out)) (sym node) ∙ link.cable;
      } in
      (link.there ∷ on.0, (leads_on, on.1))

  -- ---- from one port to another
  record HasLid (guid lid : ℕ) (at : PortRef) : Type 0 where
    named : guid_in routes.lids lid ≡ Some guid
    attached : home_of homes lid ≡ Some at

  port_lid : (at back : PortRef) (one : AdapterState) → IsCabledPort fabric at one → (attachment : IsAttached fabric routes.graph up.graph at back one)
      → HasLid one.port_guid one.info.lid (port attachment.place back.port)
  port_lid at back one cabled attachment =
      let named = (lids_and_guids_name_each_other routes.lids one.port_guid one.info.lid home.own_lids).0 (up.lids at one cabled) in
      let there : home_in routes.graph one.port_guid ≡ port attachment.place back.port =
      ap (home_in routes.graph) (sym attachment.guid_is) ∙ port_home routes.graph attachment.index attachment.hung home.graph attachment.has ∙ attachment.at_is in
      record { named = named; attached = home_at routes.graph routes.lids one.info.lid one.port_guid named ∙ ap (λ (p : PortRef). Some p) there }

  switch_lid : (place : ℕ) (found : Found) → slice_get up.graph.layout.found place ≡ Some found → (lid : ℕ) × (home_of homes lid ≡ Some (port place 0))
  switch_lid place found stands =
      let one = switch_of fabric found in
      let there : slice_get routes.graph.switches place ≡ Some one =
      ap (λ (switches : List GraphSwitch). slice_get switches place) up.graph.layout.switches ∙ slice_get-map (switch_of fabric) up.graph.layout.found place
      ∙ ap (option_map (switch_of fabric)) stands in
      let end = switch_first routes.graph.switches (map (adapter_end routes.graph.manager) routes.graph.ports) place one there in
      let lid = lid_of (end_ports routes.graph) (switch_end one) in
      let has = all_have (λ end. lid_in routes.lids end.guid ≡ Some (lid_of (end_ports routes.graph) end)) (end_ports routes.graph) place (switch_end one)
      home.of.lids_are.each end in
      let named = (lids_and_guids_name_each_other routes.lids one.guid lid home.own_lids).0 has in
      (lid, home_at routes.graph routes.lids lid one.guid named ∙ ap (λ (p : PortRef). Some p) (switch_home routes.graph place one home.graph there))

  carried_by : (lid s number : ℕ) → home_of homes lid ≡ Some (port s number) → 1 ≤ number → carries homes s ≡ true
  carried_by lid s number is some =
      any_by (λ home. not (home.port == 0) && (home.node == s)) homes (lid - 1) (port s number) (home_there homes lid (port s number) is)
      (and_from (not (number == 0)) (s == s) (grind (arith, nat_tests, some)) (eq-eqb s s refl))

  arrives : (s d lid number : ℕ) → s < length (rows_of routes.graph) → home_of homes lid ≡ Some (port d number) → number ≢ 0
      → (a : ℕ) → home_of homes a ≡ Some (port s 0) → carries homes s ≡ true → (steps : List ℕ) × LeadsToLid routes.between lid s d number steps
  arrives s d lid number within is some a own carried = by (next_hop routes.between s lid) refl
    where
      routed : IsRouted routes.between lid s d number
      routed =
          home.routed s lid d number (subst (λ (rows : _). s < length rows) (sym home.of.rows_are) within)
          (ap (λ (all : List PortRef). home_of all lid) home.of.homes_are ∙ is)

      pair : IsPair homes a lid s d
      pair = record { port = number; switch = own; carried = carried; adapter = is; is_port = some }

      by : (hop : Option ℕ) → next_hop routes.between s lid ≡ hop → (steps : List ℕ) × LeadsToLid routes.between lid s d number steps
      by (Some first) hop = routed.arrives first hop
      by None hop =
          let path = home.reached a lid s d pair in
          absurd (false≢true (sym (routed.none hop path.0)
          ∙ ap (λ (rows : _). is_walk rows s path.0 d && is_legal (order_of routes.between) s path.0) home.of.rows_are ∙ path.1))

  pub lead_there : (from at : PortRef) (sender one : AdapterState) (begin : IsCabledPort fabric from sender) → IsCabledPort fabric at one
      → (way : List PortRef) × Follows fabric.nodes fabric.cables one.info.lid begin.far way at
  lead_there from at sender one begin end =
      let first = attached fabric routes.graph from sender up.good up.graph begin in
      let last = attached fabric routes.graph at one up.good up.graph end in
      let here = port_lid from begin.far sender begin first in
      let there = port_lid at end.far one end last in
      let own = switch_lid first.place first.found first.there in
      let begins = in_range fabric begin.far.node begin.far.port (far_is_port fabric.nodes fabric.cables from begin.far (present_right up.good) begin.cable) in
      let ends = in_range fabric end.far.node end.far.port (far_is_port fabric.nodes fabric.cables at end.far (present_right up.good) end.cable) in
      let way = arrives first.place last.place one.info.lid end.far.port (row_within fabric routes.graph first.place first.found up.graph first.there) there.attached
      (λ is. omega (arith, ends.0, is)) own.0 own.1 (carried_by sender.info.lid first.place begin.far.port here.attached begins.0) in
      follow one.info.lid last.place end.far.port at way.0 first.place first.found begin.far
      (record {
        last = last.found;
        there = last.there;
        cable = ap (λ (n : ℕ). far_end fabric.cables (port n end.far.port)) last.node ∙ last.home;
        hop = way.1.out;
        within = lid_within routes.lids one.info.lid one.port_guid there.named;
      })
      first.there first.node way.1.route
