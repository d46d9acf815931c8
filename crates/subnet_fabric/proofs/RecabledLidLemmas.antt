-- Two graphs that have the same end ports: they have one list of LIDs, and the same ports of adapters.
use Rattle.std.proofs.Common.{ℕ, ◌+◌, ◌≡◌, ◌⊎◌, inl, inr, ◌∙◌, ◌==◌, ◌&&◌, ◌||◌, ap, ap₂, refl, sym, subst, Bool, true, false, List, ◌∷◌, map, position, slice_get, Option, Some, None, option_map}
use Rattle.std.specs.List.{Contains, list_any}
use Rattle.std.proofs.lemmas.Bool.{and_parts, eqb-true, false≢true}
use Rattle.std.proofs.lemmas.List.Elements.{Contains-append_cases, Contains-append_right}
use Rattle.std.proofs.lemmas.List.Folds.{list_any-append}
use Rattle.std.proofs.lemmas.Option.{none-some, same_Some, slice_get-map}
use Rattle.lid_assign.specs.Lids.{AreLids, adapter_end, end_ports, lid_in, switch_end}
use Rattle.pkey_rules.specs.declared.end_port.EndPort.{EndPort}
use Rattle.step_results.proofs.ListLemmas.{all_have, any_map}
use Rattle.step_results.proofs.PlaceLemmas.{not_there}
use Rattle.step_results.proofs.RisingLemmas.{rises, same_rising}
use Rattle.subnet_fabric.specs.SetUp.{AreAssigned}
use Rattle.subnet_model.specs.EndPorts.{lid_of}
use Rattle.sweep.proofs.EndPortLemmas.{stands, there_is}
use Rattle.sweep.proofs.FoundLemmas.{any_at, any_by}
use Rattle.sweep.proofs.PlaceLemmas.{position_at}
use Rattle.sweep.specs.EndPorts.{FabricPort, end_of_adapter, end_of_switch, end_ports_in}
use Rattle.sweep.specs.Graph.{GraphState, IsGraph}
use Rattle.sweep.specs.declared.graph.GraphPort.{GraphPort}
use Rattle.sweep.specs.declared.graph.GraphSwitch.{GraphSwitch}
use Rattle.table_push.proofs.AttachedLemmas.{found_is}
use Rattle.table_push.proofs.WantedLemmas.{port_is}
use Rattle.table_push.specs.Keys.{port_of}

-- ---- which GUIDs have LIDs
-- those of the graph's end ports
any_end : (graph : GraphState) (guid : ℕ) → list_any (λ port. port.guid == guid) (end_ports graph) ≡ list_any (λ end. end.guid == guid) (end_ports_in graph)
any_end graph guid =
    list_any-append (λ port. port.guid == guid) (map switch_end graph.switches) (map (adapter_end graph.manager) graph.ports)
    ∙ ap₂ (λ (one other : Bool). one || other) (any_map (λ port. port.guid == guid) switch_end graph.switches)
    (any_map (λ port. port.guid == guid) (adapter_end graph.manager) graph.ports)
    ∙ sym (list_any-append (λ end. end.guid == guid) (map end_of_switch graph.switches) (map end_of_adapter graph.ports)
    ∙ ap₂ (λ (one other : Bool). one || other) (any_map (λ end. end.guid == guid) end_of_switch graph.switches)
    (any_map (λ end. end.guid == guid) end_of_adapter graph.ports))

any_lid : (ports : List EndPort) (guids : List ℕ) (guid : ℕ) → AreLids ports guids
    → list_any (λ other. other == guid) guids ≡ list_any (λ port. port.guid == guid) ports
any_lid ports guids guid are = by (list_any (λ port. port.guid == guid) ports) refl
  where
    nowhere : (o : Option ℕ) → option_map (λ place. place + 1) o ≡ None → o ≡ None
    nowhere None is = refl
    nowhere (Some place) is = absurd (none-some (place + 1) (sym is))

    has_place : (o : Option ℕ) (lid : ℕ) → option_map (λ place. place + 1) o ≡ Some lid → (place : ℕ) × (o ≡ Some place)
    has_place None lid is = absurd (none-some lid is)
    has_place (Some place) lid is = (place, refl)

    by : (b : Bool) → list_any (λ port. port.guid == guid) ports ≡ b → list_any (λ other. other == guid) guids ≡ b
    by false none = not_there (λ other. other == guid) guids (nowhere (position (λ other. other == guid) guids) (are.only guid none))
    by true some =
        let end = any_at (λ port. port.guid == guid) ports some in
        let has : lid_in guids end.one.guid ≡ Some (lid_of ports end.one) =
        all_have (λ port. lid_in guids port.guid ≡ Some (lid_of ports port)) ports end.place end.one are.each end.there in
        let place = has_place (position (λ other. other == end.one.guid) guids) (lid_of ports end.one) has in
        let at = position_at (λ other. other == end.one.guid) guids place.0 place.1 in
        any_by (λ other. other == guid) guids place.0 at.0 at.1
        (ap (λ (g : ℕ). at.0 == g) (sym (eqb-true end.one.guid guid end.passes)) ∙ at.2)

-- ---- graphs with the same end ports
pub record HaveSameEnds (one other : GraphState) : Type 0 where
  pub to : (end : FabricPort) → Contains (end_ports_in one) end → Contains (end_ports_in other) end
  pub back : (end : FabricPort) → Contains (end_ports_in other) end → Contains (end_ports_in one) end

pub turned : (one other : GraphState) → HaveSameEnds one other → HaveSameEnds other one
turned one other same = record { to = same.back; back = same.to }

any_alike : (p : FabricPort → Bool) (xs ys : List FabricPort) → ((x : FabricPort) → Contains xs x → Contains ys x) → list_any p xs ≡ true → list_any p ys ≡ true
any_alike p xs ys to some =
    let end = any_at p xs some in
    let at = stands ys end.one (to end.one (there_is xs end.place end.one end.there)) in
    any_by p ys at.0 end.one at.1 end.passes

same_any : (p : FabricPort → Bool) (one other : GraphState) → HaveSameEnds one other → list_any p (end_ports_in one) ≡ list_any p (end_ports_in other)
same_any p one other same = by (list_any p (end_ports_in one)) refl (list_any p (end_ports_in other)) refl
  where
    by : (a : Bool) → list_any p (end_ports_in one) ≡ a → (b : Bool) → list_any p (end_ports_in other) ≡ b → a ≡ b
    by true is true is_too = refl
    by false is false is_too = refl
    by true is false is_too = absurd (false≢true (sym is_too ∙ any_alike p (end_ports_in one) (end_ports_in other) same.to is))
    by false is true is_too = absurd (false≢true (sym is ∙ any_alike p (end_ports_in other) (end_ports_in one) same.back is_too))

-- ---- LIDs
pub one_list : (one other : GraphState) (guids others : List ℕ) → HaveSameEnds one other → other.manager ≡ one.manager → AreAssigned one guids
    → AreAssigned other others → others ≡ guids
one_list one other guids others same manager assigned assigned_too =
    let first = assigned.order in
    let second = assigned_too.order in
    let heads : second.others ≡ first.others =
    same_rising second.others first.others (rises second.others second.stand.rising) (rises first.others first.stand.rising) rest in
    second.guids_are ∙ ap₂ (λ (guid : ℕ) (more : List ℕ). guid ∷ more) manager heads ∙ sym first.guids_are
  where
    all_same : (guid : ℕ) → list_any (λ g. g == guid) others ≡ list_any (λ g. g == guid) guids
    all_same guid =
        any_lid (end_ports other) others guid assigned_too.lids ∙ any_end other guid
        ∙ sym (any_lid (end_ports one) guids guid assigned.lids ∙ any_end one guid ∙ same_any (λ end. end.guid == guid) one other same)

    -- the subnet manager's GUID comes first, and once
    behind : (lead guid : ℕ) (some more : List ℕ) → list_any (λ g. g == lead) some ≡ false → list_any (λ g. g == lead) more ≡ false
        → ((lead == guid) || list_any (λ g. g == guid) some) ≡ ((lead == guid) || list_any (λ g. g == guid) more)
        → list_any (λ g. g == guid) some ≡ list_any (λ g. g == guid) more
    behind lead guid some more apart apart_too is = by (lead == guid) refl is
      where
        by : (b : Bool) → (lead == guid) ≡ b → (b || list_any (λ g. g == guid) some) ≡ (b || list_any (λ g. g == guid) more)
            → list_any (λ g. g == guid) some ≡ list_any (λ g. g == guid) more
        by true here is =
            let at = eqb-true lead guid here in
            subst (λ (n : ℕ). list_any (λ g. g == n) some ≡ list_any (λ g. g == n) more) at (apart ∙ sym apart_too)
        by false here is = is

    rest : (guid : ℕ) → list_any (λ g. g == guid) assigned_too.order.others ≡ list_any (λ g. g == guid) assigned.order.others
    rest guid =
        behind one.manager guid assigned_too.order.others assigned.order.others
        (ap (λ (n : ℕ). list_any (λ g. g == n) assigned_too.order.others) (sym manager) ∙ assigned_too.order.stand.apart)
        assigned.order.stand.apart
        (ap (λ (n : ℕ). (n == guid) || list_any (λ g. g == guid) assigned_too.order.others) (sym manager)
        ∙ ap (list_any (λ g. g == guid)) (sym assigned_too.order.guids_are) ∙ all_same guid ∙ ap (list_any (λ g. g == guid)) assigned.order.guids_are)

-- ---- ports of adapters
no_switch_end : (graph : GraphState) (one : GraphPort) → Contains (map end_of_switch graph.switches) (end_of_adapter one) → ⊥
no_switch_end graph one has =
    let at = stands (map end_of_switch graph.switches) (end_of_adapter one) has in
    by (slice_get graph.switches at.0) (sym (slice_get-map end_of_switch graph.switches at.0) ∙ at.1)
  where
    by : (o : Option GraphSwitch) → option_map end_of_switch o ≡ Some (end_of_adapter one) → ⊥
    by None is = none-some (end_of_adapter one) is
    by (Some switch) is =
        false≢true (sym (ap (λ (end : FabricPort). end.is_switch) (same_Some (end_of_switch switch) (end_of_adapter one) is)))

record IsPortToo (graph : GraphState) (one : GraphPort) : Type 0 where
  place : ℕ
  port : GraphPort
  there : slice_get graph.ports place ≡ Some port
  same : end_of_adapter port ≡ end_of_adapter one

is_port_too : (graph : GraphState) (one : GraphPort) → Contains (end_ports_in graph) (end_of_adapter one) → IsPortToo graph one
is_port_too graph one has = by (Contains-append_cases (map end_of_switch graph.switches) (map end_of_adapter graph.ports) (end_of_adapter one) has)
  where
    found : (place : ℕ) (o : Option GraphPort) → slice_get graph.ports place ≡ o → option_map end_of_adapter o ≡ Some (end_of_adapter one) → IsPortToo graph one
    found place None there is = absurd (none-some (end_of_adapter one) is)
    found place (Some port) there is =
        record { place = place; port = port; there = there; same = same_Some (end_of_adapter port) (end_of_adapter one) is }

    by : Contains (map end_of_switch graph.switches) (end_of_adapter one) ⊎ Contains (map end_of_adapter graph.ports) (end_of_adapter one) → IsPortToo graph one
    by (inl here) = absurd (no_switch_end graph one here)
    by (inr here) =
        let at = stands (map end_of_adapter graph.ports) (end_of_adapter one) here in
        found at.0 (slice_get graph.ports at.0) refl (sym (slice_get-map end_of_adapter graph.ports at.0) ∙ at.1)

port_too : (one other : GraphState) (guid number : ℕ) (port : GraphPort) → HaveSameEnds one other → IsGraph other → port_of one.ports guid number ≡ Some port
    → (too : GraphPort) × (port_of other.ports guid number ≡ Some too) × (too.port_guid ≡ port.port_guid)
port_too one other guid number port same is found =
    let here = found_is (λ one. (one.node_guid == guid) && (one.number == number)) one.ports port found in
    let own = and_parts (port.node_guid == guid) (port.number == number) here.2 in
    let has : Contains (end_ports_in one) (end_of_adapter port) =
    Contains-append_right (map end_of_switch one.switches) (map end_of_adapter one.ports) (end_of_adapter port)
    (there_is (map end_of_adapter one.ports) here.0 (end_of_adapter port)
    (slice_get-map end_of_adapter one.ports here.0 ∙ ap (option_map end_of_adapter) here.1)) in
    let too = is_port_too other port (same.to (end_of_adapter port) has) in
    let node : too.port.node_guid ≡ guid = ap (λ (end : FabricPort). end.node_guid) too.same ∙ eqb-true port.node_guid guid own.0 in
    let counted : too.port.number ≡ number = ap (λ (end : FabricPort). end.number) too.same ∙ eqb-true port.number number own.1 in (
      too.port,
      (λ i. port_of other.ports (sym node i) (sym counted i)) ∙ port_is other too.place too.port is too.there,
      ap (λ (end : FabricPort). end.guid) too.same,
    )

-- by which GUID an adapter's port of that number is known
abbrev pub named : GraphState → ℕ → ℕ → Option ℕ
named graph guid number = option_map (λ port. port.port_guid) (port_of graph.ports guid number)

pub same_named : (one other : GraphState) (guid number : ℕ) → HaveSameEnds one other → IsGraph one → IsGraph other
    → named other guid number ≡ named one guid number
same_named one other guid number same is is_too = by (port_of one.ports guid number) refl (port_of other.ports guid number) refl
  where
    by : (o : Option GraphPort) → port_of one.ports guid number ≡ o → (p : Option GraphPort) → port_of other.ports guid number ≡ p
        → option_map (λ (port : GraphPort). port.port_guid) p ≡ option_map (λ (port : GraphPort). port.port_guid) o
    by None here None there = refl
    by None here (Some port) there =
        let too = port_too other one guid number port (turned one other same) is there in
        absurd (none-some too.0 (sym here ∙ too.1))
    by (Some port) here None there =
        let too = port_too one other guid number port same is_too here in
        absurd (none-some too.0 (sym there ∙ too.1))
    by (Some port) here (Some other_port) there =
        let too = port_too one other guid number port same is_too here in
        let met : too.0 ≡ other_port = same_Some too.0 other_port (sym too.1 ∙ there) in
        ap (λ (g : ℕ). Some g) (ap (λ (port : GraphPort). port.port_guid) (sym met) ∙ too.2)
