-- What is wanted of a port before and after a cable is cut or mended: the same, except the two ports of that cable.
use Rattle.std.proofs.Common.{ℕ, ◌≡◌, ◌-◌, ◌==◌, not, ◌∙◌, ap, ap₂, refl, sym, Bool, true, false, if◌then◌else◌, List, slice_get, Option, Some, None, option_map}
use Rattle.std.specs.Option.{option_and_then, option_map_or}
use Rattle.std.proofs.lemmas.Bool.{false≢true}
use Rattle.std.proofs.lemmas.Option.{same_Some}
use Rattle.fabric_parts.specs.Cable.{far_end, is_same_port, port}
use Rattle.fabric_parts.specs.declared.cable.PortRef.{PortRef}
use Rattle.fabric_wire.proofs.RecablingLemmas.{stays_good}
use Rattle.fabric_wire.specs.Recabling.{can_change, changed}
use Rattle.lid_assign.specs.Lids.{lid_in}
use Rattle.smp_wire.specs.Deliveries.{adapter_ports, guid_at as port_guid_at}
use Rattle.port_model.specs.AdapterState.{AdapterState}
use Rattle.smp_wire.specs.FabricState.{FabricState, adapter_port, is_switch, is_switch_at}
use Rattle.smp_wire.specs.Good.{IsGood}
use Rattle.smp_wire.specs.declared.node.Node.{Node}
use Rattle.smp_wire.specs.declared.node.Node.TheVariants.{Switch, Adapter}
use Rattle.updn_routes.proofs.OfFabricLemmas.{has_switch, not_without}
use Rattle.subnet_fabric.proofs.RecabledCableLemmas.{leads}
use Rattle.subnet_fabric.proofs.RecabledLidLemmas.{HaveSameEnds, named, one_list, same_named}
use Rattle.subnet_fabric.proofs.RecabledNodeLemmas.{adapter_stays, end_stays, guid_stays, kind_stays, moves, seen_stays}
use Rattle.subnet_fabric.proofs.RecabledSightLemmas.{IsFoundAt, found_at, hung_guid, hung_is, leads_to_switch, link_is, place_at}
use Rattle.subnet_fabric.specs.SetUp.{AreAssigned}
use Rattle.sweep.proofs.EndPortLemmas.{graphs_have_the_end_ports}
use Rattle.sweep.specs.Graph.{IsGraph}
use Rattle.sweep.specs.OfFabric.{IsGraphOf, guid_at}
use Rattle.sweep.specs.declared.graph.GraphPort.{GraphPort}
use Rattle.sweep.specs.declared.seen.Seen.{Seen}
use Rattle.table_push.specs.Keys.{adapter_keys, attached_at, key_table, keys_wanted, port_of, switch_keys}
use Rattle.table_push.specs.Ports.{adapter_change, change_wanted, has_link, stays, switch_change}
use Rattle.table_push.specs.declared.ports.PortChange.{PortChange}
use Rattle.updn_routes.specs.Subnet.{RoutesState, place_of}

-- ---- what is wanted, by LIDs and where the cable leads
abbrev pub end_change : List ℕ → ℕ → PortChange
end_change lids guid = record stays { lid = lid_in lids guid }

abbrev pub between : PortChange
between = record stays { enforcement = Some false; active = true }

abbrev change_by : List ℕ → (guid number : ℕ) → Option ℕ → Bool → PortChange
change_by lids guid number hung link =
    if number == 0 then end_change lids guid
    else option_map_or (λ one. record stays { enforcement = Some true; active = true }) hung (if link then between else stays)

abbrev keys_at : List ℕ → List (List ℕ) → ℕ → Option (List ℕ)
keys_at lids keys guid = option_and_then (λ lid. slice_get keys (lid - 1)) (lid_in lids guid)

abbrev keys_by : List ℕ → List (List ℕ) → (guid number : ℕ) → Option ℕ → Option (List ℕ)
keys_by lids keys guid number hung =
    if number == 0 then option_map (key_table false) (keys_at lids keys guid)
    else option_and_then (λ port. option_map (key_table true) (keys_at lids keys port)) hung

through : {X Y Z : Type 0} (f : X → Y) (g : Y → Option Z) (o : Option X) → option_and_then (λ x. g (f x)) o ≡ option_and_then g (option_map f o)
through f g None = refl
through f g (Some x) = refl

whatever : {X Y Z : Type 0} (f : X → Y) (g : Y → Z) (z : Z) (o : Option X) → option_map_or (λ x. g (f x)) o z ≡ option_map_or g (option_map f o) z
whatever f g z None = refl
whatever f g z (Some x) = refl

-- at a port of a switch
switch_wants : (routes : RoutesState) (guid place number : ℕ) (hung : Option ℕ) (link : Bool) → place_of routes.graph.switches guid ≡ Some place
    → option_map (λ one. one.port_guid) (attached_at routes.graph.ports place number) ≡ hung → has_link routes.graph place number ≡ link
    → change_wanted routes guid number ≡ change_by routes.lids guid number hung link
unfolding change_wanted
switch_wants routes guid place number hung link is attached linked =
    ap (λ (o : Option ℕ). option_map_or (λ place. switch_change routes guid place number) o (adapter_change routes guid number)) is
    ∙ ap (λ (one : PortChange). if number == 0 then end_change routes.lids guid else one)
    (whatever (λ (one : GraphPort). one.port_guid) (λ one. record stays { enforcement = Some true; active = true })
    (if has_link routes.graph place number then between else stays) (attached_at routes.graph.ports place number))
    ∙ ap₂ (λ (o : Option ℕ) (b : Bool). change_by routes.lids guid number o b) attached linked

switch_holds : (routes : RoutesState) (keys : List (List ℕ)) (guid place number : ℕ) (hung : Option ℕ) → place_of routes.graph.switches guid ≡ Some place
    → option_map (λ one. one.port_guid) (attached_at routes.graph.ports place number) ≡ hung
    → keys_wanted routes keys guid number ≡ keys_by routes.lids keys guid number hung
unfolding keys_wanted
switch_holds routes keys guid place number hung is attached =
    ap (λ (o : Option ℕ). option_map_or (λ place. switch_keys routes keys guid place number) o (adapter_keys routes keys guid number)) is
    ∙ ap (λ (one : Option (List ℕ)). if number == 0 then option_map (key_table false) (keys_at routes.lids keys guid) else one)
    (through (λ (one : GraphPort). one.port_guid) (λ port. option_map (key_table true) (keys_at routes.lids keys port)) (attached_at routes.graph.ports place number))
    ∙ ap (keys_by routes.lids keys guid number) attached

-- at one of an adapter
adapter_wants : (routes : RoutesState) (guid number : ℕ) → place_of routes.graph.switches guid ≡ None
    → change_wanted routes guid number
    ≡ option_map_or (λ port. record stays { lid = lid_in routes.lids port; active = true }) (named routes.graph guid number) stays
unfolding change_wanted
adapter_wants routes guid number is =
    ap (λ (o : Option ℕ). option_map_or (λ place. switch_change routes guid place number) o (adapter_change routes guid number)) is
    ∙ whatever (λ (one : GraphPort). one.port_guid) (λ port. record stays { lid = lid_in routes.lids port; active = true }) stays
    (port_of routes.graph.ports guid number)

adapter_holds : (routes : RoutesState) (keys : List (List ℕ)) (guid number : ℕ) → place_of routes.graph.switches guid ≡ None
    → keys_wanted routes keys guid number
    ≡ option_and_then (λ port. option_map (key_table false) (keys_at routes.lids keys port)) (named routes.graph guid number)
unfolding keys_wanted
adapter_holds routes keys guid number is =
    ap (λ (o : Option ℕ). option_map_or (λ place. switch_keys routes keys guid place number) o (adapter_keys routes keys guid number)) is
    ∙ through (λ (one : GraphPort). one.port_guid) (λ port. option_map (key_table false) (keys_at routes.lids keys port)) (port_of routes.graph.ports guid number)

-- where no adapter is at the other end of the cable
by_link : (lids : List ℕ) (guid number : ℕ) (up : Bool) → (number == 0) ≡ false → change_by lids guid number None (not up) ≡ (if up then stays else between)
by_link lids guid number true some = rw some refl
by_link lids guid number false some = rw some refl

no_keys : (lids : List ℕ) (keys : List (List ℕ)) (guid number : ℕ) → (number == 0) ≡ false → keys_by lids keys guid number None ≡ None
no_keys lids keys guid number some = rw some refl

-- a cable that leads to a switch, or to nothing
switch_has_none : (at : PortRef) (found : Option Node) → option_map_or is_switch found false ≡ true
    → option_map (λ (one : AdapterState). one.port_guid) (option_and_then (λ node. adapter_port (adapter_ports node) at.port) found) ≡ None
switch_has_none at None switch = absurd (false≢true switch)
switch_has_none at (Some (Adapter ports)) switch = absurd (false≢true switch)
switch_has_none at (Some (Switch held)) switch = by (at.port == 0)
  where
    by : (b : Bool) → option_map (λ (one : AdapterState). one.port_guid) (if b then None else None) ≡ None
    by true = refl
    by false = refl

none_attached : (nodes : List Node) (there : PortRef) (on : Bool) → is_switch_at nodes there.node ≡ true
    → option_and_then (port_guid_at nodes) (leads on there) ≡ None
none_attached nodes there true switch = switch_has_none there (slice_get nodes there.node) switch
none_attached nodes there false switch = refl

leads_so : (nodes : List Node) (there : PortRef) (on : Bool) → is_switch_at nodes there.node ≡ true
    → option_map_or (λ there. is_switch_at nodes there.node) (leads on there) false ≡ on
leads_so nodes there true switch = switch
leads_so nodes there false switch = refl

-- ---- the same is wanted of that port of the node of that GUID
pub record WantsSame (keys : List (List ℕ)) (routes next : RoutesState) (guid number : ℕ) : Type 0 where
  pub change : change_wanted next guid number ≡ change_wanted routes guid number
  pub held : keys_wanted next keys guid number ≡ keys_wanted routes keys guid number

module _ (a b : PortRef) (up : Bool) (fabric : FabricState) (good : IsGood fabric) (can : can_change a b up fabric ≡ true) (keys : List (List ℕ))
    (routes next : RoutesState) (whole : IsGraph routes.graph) (whole_too : IsGraph next.graph) (of : IsGraphOf routes.graph fabric)
    (of_next : IsGraphOf next.graph (changed a b up fabric)) (assigned : AreAssigned routes.graph routes.lids)
    (assigned_too : AreAssigned next.graph next.lids) where
  abbrev after : FabricState
  after = changed a b up fabric

  good_after : IsGood after
  good_after = stays_good a b up fabric good can

  -- ---- end ports and LIDs
  same_ends : HaveSameEnds routes.graph next.graph
  same_ends = record {
    to = λ end has.
        let held = (graphs_have_the_end_ports fabric routes.graph end good of.layout).0 has in
        (graphs_have_the_end_ports after next.graph end good_after of_next.layout).1 (held.0, end_stays a b up fabric good can held.0 ∙ held.1);
    back = λ end has.
        let held = (graphs_have_the_end_ports after next.graph end good_after of_next.layout).0 has in
        (graphs_have_the_end_ports fabric routes.graph end good of.layout).1 (held.0, sym (end_stays a b up fabric good can held.0) ∙ held.1);
  }

  same_manager : next.graph.manager ≡ routes.graph.manager
  same_manager =
      same_Some next.graph.manager routes.graph.manager
      (sym of_next.layout.manager ∙ ap (option_map (λ (seen : Seen). seen.port_guid)) (seen_stays a b up fabric good can fabric.manager) ∙ of.layout.manager)

  pub same_lids : next.lids ≡ routes.lids
  same_lids = one_list routes.graph next.graph routes.lids next.lids same_ends same_manager assigned assigned_too

  -- ---- switches
  pub switch_too : (guid place : ℕ) → place_of routes.graph.switches guid ≡ Some place → place_of next.graph.switches guid ≡ None → ⊥
  switch_too guid place is none =
      let has = has_switch fabric routes.graph of.layout guid place is in
      not_without after next.graph of_next.layout guid has.node (kind_stays a b up fabric good can has.node ∙ has.switch)
      (guid_stays a b up fabric good can has.node ∙ has.guid_is) none

  pub switch_was : (guid place : ℕ) → place_of next.graph.switches guid ≡ Some place → place_of routes.graph.switches guid ≡ None → ⊥
  switch_was guid place is none =
      let has = has_switch after next.graph of_next.layout guid place is in
      not_without fabric routes.graph of.layout guid has.node (sym (kind_stays a b up fabric good can has.node) ∙ has.switch)
      (sym (guid_stays a b up fabric good can has.node) ∙ has.guid_is) none

  -- ---- ports of adapters
  pub adapter_same : (guid number : ℕ) → place_of routes.graph.switches guid ≡ None → WantsSame keys routes next guid number
  adapter_same guid number none =
      let names = same_named routes.graph next.graph guid number same_ends whole whole_too in
      record {
        change =
            adapter_wants next guid number none_too
            ∙ (λ i. option_map_or (λ port. record stays { lid = lid_in (same_lids i) port; active = true }) (names i) stays)
            ∙ sym (adapter_wants routes guid number none);
        held =
            adapter_holds next keys guid number none_too
            ∙ (λ i. option_and_then (λ port. option_map (key_table false) (keys_at (same_lids i) keys port)) (names i))
            ∙ sym (adapter_holds routes keys guid number none);
      }
    where
      by : (o : Option ℕ) → place_of next.graph.switches guid ≡ o → o ≡ None
      by None is = refl
      by (Some place) is = absurd (switch_was guid place is none)

      none_too : place_of next.graph.switches guid ≡ None
      none_too = let is = by (place_of next.graph.switches guid) refl in is

  -- ---- ports of switches
  module _ (node number guid : ℕ) (switch : is_switch_at fabric.nodes node ≡ true) (own : guid_at fabric node ≡ guid) where
    abbrev here : PortRef
    here = port node number

    at_was : IsFoundAt fabric routes.graph good of node
    at_was = found_at fabric routes.graph good of node switch

    at_is : IsFoundAt after next.graph good_after of_next node
    at_is = found_at after next.graph good_after of_next node (kind_stays a b up fabric good can node ∙ switch)

    wanted_was : change_wanted routes guid number ≡ change_by routes.lids guid number (hung_guid fabric here) (leads_to_switch fabric here)
    wanted_was =
        switch_wants routes guid at_was.place number (hung_guid fabric here) (leads_to_switch fabric here)
        (place_at fabric routes.graph good of node guid whole at_was own) (hung_is fabric routes.graph good of node number at_was)
        (link_is fabric routes.graph good of node number at_was)

    wanted_is : change_wanted next guid number ≡ change_by next.lids guid number (hung_guid after here) (leads_to_switch after here)
    wanted_is =
        switch_wants next guid at_is.place number (hung_guid after here) (leads_to_switch after here)
        (place_at after next.graph good_after of_next node guid whole_too at_is (guid_stays a b up fabric good can node ∙ own))
        (hung_is after next.graph good_after of_next node number at_is) (link_is after next.graph good_after of_next node number at_is)

    held_was : keys_wanted routes keys guid number ≡ keys_by routes.lids keys guid number (hung_guid fabric here)
    held_was =
        switch_holds routes keys guid at_was.place number (hung_guid fabric here)
        (place_at fabric routes.graph good of node guid whole at_was own) (hung_is fabric routes.graph good of node number at_was)

    held_is : keys_wanted next keys guid number ≡ keys_by next.lids keys guid number (hung_guid after here)
    held_is =
        switch_holds next keys guid at_is.place number (hung_guid after here)
        (place_at after next.graph good_after of_next node guid whole_too at_is (guid_stays a b up fabric good can node ∙ own))
        (hung_is after next.graph good_after of_next node number at_is)

    -- where the cable is another
    pub switch_same : is_same_port a here ≡ false → is_same_port b here ≡ false → WantsSame keys routes next guid number
    switch_same first second =
        let far : far_end after.cables here ≡ far_end fabric.cables here = (moves a b up fabric good can).elsewhere here first second in
        let hung : hung_guid after here ≡ hung_guid fabric here =
        ap (option_and_then (port_guid_at after.nodes)) far ∙ each (far_end fabric.cables here) in
        let link : leads_to_switch after here ≡ leads_to_switch fabric here =
        ap (λ (o : Option PortRef). option_map_or (λ there. is_switch_at after.nodes there.node) o false) far ∙ kinds (far_end fabric.cables here) in
        record {
          change = wanted_is ∙ (λ i. change_by (same_lids i) guid number (hung i) (link i)) ∙ sym wanted_was;
          held = held_is ∙ (λ i. keys_by (same_lids i) keys guid number (hung i)) ∙ sym held_was;
        }
      where
        each : (o : Option PortRef) → option_and_then (port_guid_at after.nodes) o ≡ option_and_then (port_guid_at fabric.nodes) o
        each None = refl
        each (Some there) = ap (option_map (λ (one : AdapterState). one.port_guid)) (adapter_stays a b up fabric good can there)

        kinds : (o : Option PortRef)
            → option_map_or (λ there. is_switch_at after.nodes there.node) o false ≡ option_map_or (λ there. is_switch_at fabric.nodes there.node) o false
        kinds None = refl
        kinds (Some there) = kind_stays a b up fabric good can there.node

    -- where it is this one: it led to a switch, or there was none
    pub record WasBetween : Type 0 where
      pub change : change_wanted routes guid number ≡ (if up then stays else between)
      pub held : keys_wanted routes keys guid number ≡ None

    pub was_between : (there : PortRef) → (number == 0) ≡ false → is_switch_at fabric.nodes there.node ≡ true
        → far_end fabric.cables here ≡ leads (not up) there → WasBetween
    was_between there some switch_there far =
        let hung : hung_guid fabric here ≡ None =
        ap (option_and_then (port_guid_at fabric.nodes)) far ∙ none_attached fabric.nodes there (not up) switch_there in
        let link : leads_to_switch fabric here ≡ not up =
        ap (λ (o : Option PortRef). option_map_or (λ there. is_switch_at fabric.nodes there.node) o false) far ∙ leads_so fabric.nodes there (not up) switch_there in
        record {
          change =
              wanted_was ∙ ap₂ (λ (o : Option ℕ) (b : Bool). change_by routes.lids guid number o b) hung link
              ∙ by_link routes.lids guid number up some;
          held = held_was ∙ ap (keys_by routes.lids keys guid number) hung ∙ no_keys routes.lids keys guid number some;
        }
