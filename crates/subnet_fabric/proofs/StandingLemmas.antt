-- What a fabric that stands is once a cable of it is cut, or mended.
use Rattle.std.proofs.Common.{ℕ, ◌≡◌, ◌==◌, ◌&&◌, ◌||◌, not, ◌∙◌, inl, inr, ap, refl, sym, subst, Bool, true, false, if◌then◌else◌, List, [], ◌∷◌, ◌++◌, filter, map, unwrap_or, Option}
use Rattle.std.specs.List.{list_all, list_any}
use Rattle.std.proofs.lemmas.Bool.{and_from, and_parts, false≢true}
use Rattle.std.proofs.lemmas.List.{append-nil}
use Rattle.std.proofs.lemmas.Map.Views.{any-filter_same}
use Rattle.fabric_parts.specs.Cable.{far_end, is_cabled, port}
use Rattle.fabric_parts.specs.declared.cable.Cable.{Cable}
use Rattle.fabric_parts.specs.declared.cable.PortRef.{PortRef}
use Rattle.fabric_wire.proofs.OfTopologyLemmas.{switch_there}
use Rattle.fabric_wire.proofs.OfTopologyWalkLemmas.{joined}
use Rattle.fabric_wire.proofs.RecablingLemmas.{asked, stays_good}
use Rattle.fabric_wire.specs.Cabling.{CablingState, is_between, is_not_between}
use Rattle.fabric_wire.specs.OfTopology.{fabric_of}
use Rattle.fabric_wire.specs.Recabling.{cabling_of, cabling_with, can_change, candidates, changed}
use Rattle.smp_wire.proofs.CableLemmas.{ports_turn}
use Rattle.smp_wire.specs.FabricState.{FabricState, is_switch, is_switch_at}
use Rattle.smp_wire.specs.Good.{IsGood, node_guid}
use Rattle.smp_wire.specs.declared.node.Node.{Node}
use Rattle.subnet_fabric.proofs.LimitLemmas.{not_too_big}
use Rattle.subnet_fabric.proofs.OneFateLemmas.{no_path_excludes_coming_up}
use Rattle.subnet_fabric.proofs.RecabledCableLemmas.{leads}
use Rattle.subnet_fabric.proofs.RecabledLemmas.{recabled_is_as_brought_up}
use Rattle.subnet_fabric.proofs.RecabledLookLemmas.{Look, LooksSame, count_same, guid_same, kind_same, look, name_same, seen_same}
use Rattle.subnet_fabric.proofs.RecabledMaskLemmas.{masks_hidden}
use Rattle.subnet_fabric.proofs.RecabledNodeLemmas.{cable_stays, cabled_same, kind_stays, moves}
use Rattle.subnet_fabric.proofs.RecabledPowerUpLemmas.{all_show}
use Rattle.subnet_fabric.proofs.RecabledSightLemmas.{found_at, place_at}
use Rattle.subnet_fabric.proofs.RecabledSoundLemmas.{what_is_up_is_sound}
use Rattle.subnet_fabric.proofs.RootLemmas.{are_named, roots_are_switches, same_guid}
use Rattle.subnet_fabric.proofs.StandingLookLemmas.{AreSeenAlike, big_alike, built_looks, changed_looks, graph_alike, seen_back, set_up_alike}
use Rattle.subnet_fabric.specs.BringUp.{BroughtUpState, root_guids}
use Rattle.subnet_fabric.specs.Planning.{MayBePlanned, planned, port_in}
use Rattle.subnet_fabric.specs.Recabled.{IsUpWith, base_of, with_cables}
use Rattle.subnet_fabric.specs.SetUp.{CanBeSetUp, IsNotSetUp, IsSetUpBy, are_switches, has_switch}
use Rattle.subnet_fabric.specs.Standing.{CanComeUp, IsRecabled, IsStanding, cabling_after}
use Rattle.subnet_fabric.specs.declared.fault.FabricFault.{FabricFault}
use Rattle.subnet_fabric.specs.declared.fault.FabricFault.TheVariants as fault
use Rattle.sweep.proofs.CutLemmas.{graphs_are_recabled}
use Rattle.sweep.proofs.FoundLemmas.{place_is}
use Rattle.sweep.specs.Graph.{IsGraph}
use Rattle.sweep.specs.Laws.{AreAlike, IsCut, in_graph}
use Rattle.sweep.specs.Limits.{IsTooBig}
use Rattle.sweep.specs.OfFabric.{IsGraphOf, IsLayoutOf, guid_at as guid_in_fabric, nodes_of, place_of}
use Rattle.sweep.specs.declared.fault.SweepFault.TheVariants as sweep
use Rattle.topo_file.specs.Node.{guid_at, is_switch_at as is_planned_at}
use Rattle.topo_file.specs.Sound.{IsSound}
use Rattle.topo_file.specs.Topology.{TopologyState}
use Rattle.updn_routes.specs.Subnet.{RoutesState, guids_of}

-- ---- fabrics with the same nodes, as far as they show
alike : (one other : FabricState) → LooksSame one.nodes other.nodes → other.manager ≡ one.manager → AreAlike one other
alike one other same manager = record {
  switches = λ node. sym (kind_same one other.nodes same node);
  counts = λ node. sym (count_same one other.nodes same node);
  guids = λ node. sym (guid_same one other.nodes same node);
  names = λ at. sym (name_same one other.nodes same at);
  shown = λ at. sym (seen_same one other.nodes same at);
  manager = sym manager;
}

-- have the same switches
roots_same : (old new : List Node) → LooksSame old new → (root : ℕ) → has_switch new root ≡ has_switch old root
roots_same old new same root =
    read new ∙ ap (list_any (λ (one : Look). one.switch && (one.guid == root))) same ∙ sym (read old)
  where
    read : (nodes : List Node) → has_switch nodes root ≡ list_any (λ (one : Look). one.switch && (one.guid == root)) (map look nodes)
    read [] = refl
    read (node ∷ nodes) = ap (λ (rest : Bool). (is_switch node && (node_guid node == root)) || rest) (read nodes)

switches_same : (one other : FabricState) (roots : List ℕ) → LooksSame one.nodes other.nodes → are_switches one roots ≡ true → are_switches other roots ≡ true
switches_same one other roots same are = (λ i. list_all (λ root. roots_same one.nodes other.nodes same root i) roots) ∙ are

-- ---- a change for which there is no cable changes nothing
none_between : (a b : PortRef) (cables : List Cable) → list_any (is_between a b) cables ≡ false
    → (filter (is_not_between a b) cables ≡ cables) × (filter (is_between a b) cables ≡ [])
none_between a b [] none = (refl, refl)
none_between a b (cable ∷ cables) none = by (is_between a b cable) refl none (none_between a b cables)
  where
    by : (here : Bool) → is_between a b cable ≡ here → (here || list_any (is_between a b) cables) ≡ false
        → (list_any (is_between a b) cables ≡ false → (filter (is_not_between a b) cables ≡ cables) × (filter (is_between a b) cables ≡ []))
        → (filter (is_not_between a b) (cable ∷ cables) ≡ cable ∷ cables) × (filter (is_between a b) (cable ∷ cables) ≡ [])
    by true is fails rest = absurd (false≢true (sym fails))
    by false is fails rest =
        let later = rest fails in
        (rw is (ap (λ (kept : List Cable). cable ∷ kept) later.0), rw is later.1)

nothing_changes : (a b : PortRef) (up : Bool) (was : CablingState) → list_any (is_between a b) (if up then was.cut else was.cables) ≡ false
    → cabling_with up a b was ≡ was
nothing_changes a b true was none =
    let two = none_between a b was.cut none in
    let more = ap (λ (some : List Cable). was.cables ++ some) two.1 ∙ append-nil was.cables in
    let less = two.0 in
    λ i. record { cables = more i; cut = less i }
nothing_changes a b false was none =
    let two = none_between a b was.cables none in
    let more = ap (λ (some : List Cable). was.cut ++ some) two.1 ∙ append-nil was.cut in
    let less = two.0 in
    λ i. record { cables = less i; cut = more i }

-- ---- what can be changed is changed
none_kept : (a b : PortRef) (cables : List Cable) → list_any (is_between a b) (filter (is_not_between a b) cables) ≡ false
none_kept a b cables =
    any-filter_same (is_between a b) (is_not_between a b) false (λ cable between. ap not between) cables

cabling_differs : (a b : PortRef) (up : Bool) (fabric : FabricState) → can_change a b up fabric ≡ true
    → cabling_with up a b (cabling_of fabric) ≡ cabling_of fabric → ⊥
cabling_differs a b true fabric can same =
    let there = (and_parts _ _ (and_parts (is_switch_at fabric.nodes a.node) _ can).1).1 in
    false≢true (sym (none_kept a b fabric.cut) ∙ ap (λ (one : CablingState). list_any (is_between a b) one.cut) same ∙ there)
cabling_differs a b false fabric can same =
    let there = (and_parts _ _ (and_parts (is_switch_at fabric.nodes a.node) _ can).1).1 in
    false≢true (sym (none_kept a b fabric.cables) ∙ ap (λ (one : CablingState). list_any (is_between a b) one.cables) same ∙ there)

module _ (plan : TopologyState) (keys : List (List ℕ)) (routes : RoutesState) (fabric : FabricState) (sound : IsSound plan) (good : IsGood fabric)
    (standing : IsStanding plan keys routes fabric) where
  -- the topology with the cables in place
  abbrev now : TopologyState
  now = with_cables fabric.cables plan

  sound_now : IsSound now
  sound_now = what_is_up_is_sound plan (cabling_of fabric) (root_guids plan) keys routes fabric sound standing.up

  built_alike : AreSeenAlike fabric (fabric_of now)
  built_alike = record {
    nodes = sym (all_show routes keys (fabric_of now)) ∙ ap (λ (one : FabricState). map look one.nodes) (sym standing.up.set_up.is)
        ∙ masks_hidden fabric.nodes;
    cables = refl;
    manager = ap (λ (one : FabricState). one.manager) (sym standing.up.set_up.is);
  }

  -- ---- it can come up as it is
  pub can_come_up_now : CanComeUp now
  can_come_up_now =
      let up : BroughtUpState = record { routes = routes; fabric = base_of fabric } in
      record {
        joined = joined now sound_now;
        near = standing.up.set_up.are.found.near;
        reached = λ switch port none. no_path_excludes_coming_up now keys (base_of fabric) switch port sound_now none
            (record { routes = routes; by = standing.up.set_up });
      }

  -- ---- its graph
  of : IsGraphOf routes.graph fabric
  of = graph_alike (fabric_of now) fabric (seen_back fabric (fabric_of now) built_alike) routes.graph standing.up.set_up.are.found.of

  -- a switch of the topology is one of the fabric, of the same GUID
  switch_is : (node : ℕ) → is_switch_at fabric.nodes node ≡ is_planned_at plan.nodes node
  switch_is node = sym (kind_same fabric (fabric_of now).nodes built_alike.nodes node) ∙ switch_there fabric.cables plan.nodes node

  guid_is : (node : ℕ) → guid_in_fabric fabric node ≡ guid_at plan.nodes node
  guid_is node = sym (guid_same fabric (fabric_of now).nodes built_alike.nodes node) ∙ same_guid now node sound.lines.sizes

  pub roots_stand : are_switches fabric (root_guids plan) ≡ true
  roots_stand =
      switches_same (fabric_of now) fabric (root_guids plan) (sym built_alike.nodes) (roots_are_switches now sound_now)

  pub roots_named : list_all (λ root. list_any (λ guid. guid == root) (guids_of routes.graph)) (root_guids plan) ≡ true
  roots_named = are_named fabric routes.graph (root_guids plan) of.layout roots_stand

  -- a port of a switch in the graph
  placed_is : (at : PortRef) → is_switch_at fabric.nodes at.node ≡ true → IsGraph routes.graph → in_graph of.layout at ≡ port_in plan routes.graph at
  placed_is at switch graph =
      let there = found_at fabric routes.graph good of at.node switch in
      let here : place_of (nodes_of of.layout.found) at.node ≡ there.place =
      place_is (nodes_of of.layout.found) there.place at.node of.layout.once there.among in
      let named = place_at fabric routes.graph good of at.node (guid_at plan.nodes at.node) graph there (guid_is at.node) in
      ap (λ (place : ℕ). port place at.port) (here ∙ sym (ap (λ (o : Option ℕ). unwrap_or o 0) named))

  module _ (a b : PortRef) (up : Bool) (can : can_change a b up fabric ≡ true) (graph : IsGraph routes.graph) where
    abbrev pub next : FabricState
    next = changed a b up fabric

    abbrev then_in_place : CablingState
    then_in_place = cabling_with up a b (cabling_of fabric)

    abbrev plan_then : TopologyState
    plan_then = with_cables then_in_place.cables plan

    next_looks : LooksSame fabric.nodes next.nodes
    next_looks = changed_looks a b up fabric

    pub next_alike : AreSeenAlike next (fabric_of plan_then)
    next_alike = record {
      nodes = built_looks now then_in_place.cables ∙ built_alike.nodes ∙ sym next_looks;
      cables = refl;
      manager = built_alike.manager;
    }

    pub good_next : IsGood next
    good_next = stays_good a b up fabric good can

    -- the cabling then
    pub after_is : cabling_after plan a b up (cabling_of fabric) ≡ then_in_place
    after_is =
        let asks = asked a b up fabric can in
        ap (λ (both : Bool). if both then cabling_with up a b (cabling_of fabric) else cabling_of fabric)
        (and_from (is_planned_at plan.nodes a.node) _ (sym (switch_is a.node) ∙ asks.first) (sym (switch_is b.node) ∙ asks.second))

    -- ---- it is planned
    abbrev is_cut_of : Bool → Type 0
    is_cut_of mended = IsCut (if mended then next else fabric) (if mended then fabric else next) a b

    is_cut : is_cut_of up
    is_cut = by up refl
      where
        by : (mended : Bool) → up ≡ mended → is_cut_of mended
        by true is =
            let moved = moves a b up fabric good can in
            record {
              alike = alike next fabric (sym next_looks) refl;
              first = kind_stays a b up fabric good can a.node ∙ (asked a b up fabric can).first;
              second = kind_stays a b up fabric good can b.node ∙ (asked a b up fabric can).second;
              joined = moved.first_is ∙ ap (λ (on : Bool). leads on b) is;
              first_free = moved.first_was ∙ ap (λ (on : Bool). leads (not on) b) is;
              second_free = moved.second_was ∙ ap (λ (on : Bool). leads (not on) a) is;
              others = λ at first second. sym (moved.elsewhere at (ports_turn a at ∙ first) (ports_turn b at ∙ second));
            }
        by false is =
            let moved = moves a b up fabric good can in
            record {
              alike = alike fabric next next_looks refl;
              first = (asked a b up fabric can).first;
              second = (asked a b up fabric can).second;
              joined = moved.first_was ∙ ap (λ (on : Bool). leads (not on) b) is;
              first_free = moved.first_is ∙ ap (λ (on : Bool). leads on b) is;
              second_free = moved.second_is ∙ ap (λ (on : Bool). leads on a) is;
              others = λ at first second. moved.elsewhere at (ports_turn a at ∙ first) (ports_turn b at ∙ second);
            }

    pub record IsPlanned : Type 0 where
      pub may : MayBePlanned up (port_in plan routes.graph a) (port_in plan routes.graph b) routes.graph
      pub layout : IsLayoutOf (planned up (port_in plan routes.graph a) (port_in plan routes.graph b) routes.graph) next

    pub it_is_planned : IsPlanned
    it_is_planned = record { may = (both up is_cut).0; layout = (both up is_cut).1 }
      where
        first : in_graph of.layout a ≡ port_in plan routes.graph a
        first = placed_is a (asked a b up fabric can).first graph

        second : in_graph of.layout b ≡ port_in plan routes.graph b
        second = placed_is b (asked a b up fabric can).second graph

        both : (mended : Bool) → is_cut_of mended
            → MayBePlanned mended (port_in plan routes.graph a) (port_in plan routes.graph b) routes.graph
            × IsLayoutOf (planned mended (port_in plan routes.graph a) (port_in plan routes.graph b) routes.graph) next
        both true cut =
            let done = (graphs_are_recabled next fabric a b routes.graph good_next cut).1 of.layout in
            subst (λ (one : PortRef). MayBePlanned true one (port_in plan routes.graph b) routes.graph × IsLayoutOf (planned true one (port_in plan routes.graph b) routes.graph) next)
            first (subst (λ (two : PortRef). MayBePlanned true (in_graph of.layout a) two routes.graph × IsLayoutOf (planned true (in_graph of.layout a) two routes.graph) next)
            second done)
        both false cut =
            let done = (graphs_are_recabled fabric next a b routes.graph good cut).0 of.layout in
            subst (λ (one : PortRef). MayBePlanned false one (port_in plan routes.graph b) routes.graph × IsLayoutOf (planned false one (port_in plan routes.graph b) routes.graph) next)
            first (subst (λ (two : PortRef). MayBePlanned false (in_graph of.layout a) two routes.graph × IsLayoutOf (planned false (in_graph of.layout a) two routes.graph) next)
            second done)

    -- ---- and set up
    pub roots_then : are_switches next (root_guids plan) ≡ true
    roots_then = switches_same fabric next (root_guids plan) next_looks roots_stand

    -- it is as big as before
    big_before : IsTooBig next → IsTooBig fabric
    big_before (inl over) = inl (record {
      some = over.some;
      once = over.once;
      are = (λ i. list_all (λ node. sym (kind_same fabric next.nodes next_looks node) i) over.some) ∙ over.are;
      many = over.many;
    })
    big_before (inr over) = inr (record {
      some = over.some;
      once = over.once;
      are = (λ i. list_all (λ at. sym (port_stays at) i) over.some) ∙ over.are;
      many = over.many;
    })
      where
        port_stays : (at : PortRef) → (not (is_switch_at next.nodes at.node) && is_cabled next.cables at) ≡ (not (is_switch_at fabric.nodes at.node) && is_cabled fabric.cables at)
        port_stays at = ap (λ (kind : Bool). not kind && is_cabled next.cables at) (kind_same fabric next.nodes next_looks at.node) ∙ by (is_switch_at fabric.nodes at.node) refl
          where
            by : (kind : Bool) → is_switch_at fabric.nodes at.node ≡ kind → (not kind && is_cabled next.cables at) ≡ (not kind && is_cabled fabric.cables at)
            by true is = refl
            by false is = cabled_same fabric.cables next.cables at (cable_stays a b up fabric good can at is)

    small_next : IsTooBig next → ⊥
    small_next big = not_too_big now sound_now (big_alike (fabric_of now) fabric (seen_back fabric (fabric_of now) built_alike) (big_before big))

    -- nothing stops it that was planned for
    pub no_fault : (one : FabricFault) → CanBeSetUp next (root_guids plan) → IsNotSetUp next (root_guids plan) one → one ≡ fault.NoMemory
    no_fault fault.NoMemory ready not = refl
    no_fault (fault.Sweep sweep.NoMemory) ready not = absurd not
    no_fault (fault.Sweep sweep.NoReply) ready not = absurd not
    no_fault (fault.Sweep sweep.WrongReply) ready not = absurd not
    no_fault (fault.Sweep sweep.TooManyHops) ready not = absurd (ready.near not)
    no_fault (fault.Sweep sweep.TooManyNodes) ready not = absurd (small_next not)
    no_fault (fault.NoLegalPath switch port) ready not = absurd (ready.reached switch port not)
    no_fault (fault.Push one) ready not = absurd not

    pub is_recabled : (left : FabricState) (more : RoutesState) → CanBeSetUp next (root_guids plan)
        → IsSetUpBy (if can_change a b up fabric then next else fabric) (root_guids plan) keys more left → IsRecabled plan keys a b up more fabric left
    is_recabled left more ready set =
        let done = recabled_is_as_brought_up plan (cabling_of fabric) (root_guids plan) (root_guids plan) keys routes more fabric left a b up standing.up can set in
        let cables : left.cables ≡ then_in_place.cables = ap (λ (one : FabricState). one.cables) done.0.set_up.is in
        let cut : left.cut ≡ then_in_place.cut = done.0.cut in
        let is : cabling_of left ≡ then_in_place = λ i. record { cables = cables i; cut = cut i } in
        let ready_then : CanComeUp plan_then = set_up_alike next (fabric_of plan_then) (root_guids plan) next_alike ready in
        record {
          cabling = inl (subst (λ (one : CablingState). CanComeUp (with_cables one.cables plan)) (sym after_is) ready_then, is ∙ sym after_is);
          standing = record {
            up = subst (λ (one : CablingState). IsUpWith plan one (root_guids plan) keys more left) (sym is) done.0;
            hung = λ at adapter. ap (λ (all : List Cable). far_end all at) cables
                ∙ cable_stays a b up fabric good can at (switch_is at.node ∙ adapter) ∙ standing.hung at adapter;
          };
          masks = done.1;
        }

    -- and other cables are in place
    pub is_moved : (left : FabricState) (more : RoutesState)
        → IsSetUpBy (if can_change a b up fabric then next else fabric) (root_guids plan) keys more left → cabling_of left ≡ cabling_of fabric → ⊥
    is_moved left more set same =
        let done = recabled_is_as_brought_up plan (cabling_of fabric) (root_guids plan) (root_guids plan) keys routes more fabric left a b up standing.up can set in
        let cables : left.cables ≡ then_in_place.cables = ap (λ (one : FabricState). one.cables) done.0.set_up.is in
        let cut : left.cut ≡ then_in_place.cut = done.0.cut in
        let is : cabling_of left ≡ then_in_place = λ i. record { cables = cables i; cut = cut i } in
        cabling_differs a b up fabric can (sym is ∙ same)

    -- or it is not, and stays
    pub stays_so : (CanBeSetUp next (root_guids plan) → ⊥) → IsRecabled plan keys a b up routes fabric fabric
    stays_so never = record {
      cabling = inr (
        λ can_come. never (set_up_alike (fabric_of plan_then) next (root_guids plan) (seen_back next (fabric_of plan_then) next_alike)
            (subst (λ (one : CablingState). CanComeUp (with_cables one.cables plan)) after_is can_come)),
        refl,
      );
      standing = standing;
      masks = refl;
    }

  -- ---- where there is no such cable, it stays
  pub stays : (a b : PortRef) (up : Bool) → can_change a b up fabric ≡ false → IsRecabled plan keys a b up routes fabric fabric
  stays a b up never = record {
    cabling = inl (subst (λ (one : CablingState). CanComeUp (with_cables one.cables plan)) (sym same) can_come_up_now, sym same);
    standing = standing;
    masks = refl;
  }
    where
      by : (one two found : Bool) → (one && (two && found)) ≡ false → list_any (is_between a b) (candidates up fabric) ≡ found
          → (if one && two then cabling_with up a b (cabling_of fabric) else cabling_of fabric) ≡ cabling_of fabric
      by true true true fails is = absurd (false≢true (sym fails))
      by true true false fails is = nothing_changes a b up (cabling_of fabric) is
      by true false found fails is = refl
      by false two found fails is = refl

      same : cabling_after plan a b up (cabling_of fabric) ≡ cabling_of fabric
      same =
          (λ i. if sym (switch_is a.node) i && sym (switch_is b.node) i then cabling_with up a b (cabling_of fabric) else cabling_of fabric)
          ∙ by (is_switch_at fabric.nodes a.node) (is_switch_at fabric.nodes b.node) (list_any (is_between a b) (candidates up fabric)) never refl
