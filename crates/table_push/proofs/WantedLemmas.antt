-- Which P_Key tables are wanted, and a fabric in which some of them are written.
use Rattle.std.proofs.Common.{ℕ, ◌≡◌, ◌==◌, ◌&&◌, ◌||◌, ◌∙◌, ap, refl, sym, subst, Bool, true, false, if◌then◌else◌, List, slice_get, Option, Some, None, Result, Ok, option_map, unwrap_or}
use Rattle.std.specs.Option.{option_and_then, option_map_or}
use Rattle.std.proofs.lemmas.Bool.{and_from, and_parts, eq-eqb, eqb-true, false≢true, or_parts}
use Rattle.fabric_parts.specs.Cable.{is_same_port, port}
use Rattle.fabric_parts.specs.declared.cable.PortRef.{PortRef}
use Rattle.smp_wire.specs.FabricState.{FabricState}
use Rattle.smp_wire.specs.Good.{IsGood}
use Rattle.sweep.specs.Graph.{GraphState, IsGraph}
use Rattle.sweep.specs.OfFabric.{IsGraphOf}
use Rattle.sweep.specs.declared.graph.GraphPort.{GraphPort}
use Rattle.sweep.specs.declared.graph.GraphSwitch.{GraphSwitch}
use Rattle.sweep.proofs.PlaceLemmas.{position_at}
use Rattle.table_push.specs.Keys.{adapter_keys, at_cable, at_cables, at_switches, guid_of, attached_at, key_table, keys_of, keys_pushed, keys_wanted, keys_where, port_of, switch_keys}
use Rattle.table_push.specs.Nodes.{on_port, with_keys}
use Rattle.table_push.specs.Pushes.{LeadsToPort, Leaves, Stands}
use Rattle.table_push.specs.declared.fault.PushFault.{PushFault}
use Rattle.table_push.proofs.AttachedLemmas.{found_is, found_own, one_is_attached, one_number}
use Rattle.table_push.proofs.PartLemmas.{keys_part, parts_stay, parts_twice}
use Rattle.table_push.proofs.LeadLemmas.{begins_as, ends_as, goes_on}
use Rattle.table_push.proofs.NodeLemmas.{none_there}
use Rattle.table_push.proofs.PortLemmas.{port_on}
use Rattle.updn_routes.specs.Subnet.{RoutesState, place_of}

-- ---- what is wanted
wanted_by : (routes : RoutesState) (keys : List (List ℕ)) (guid number : ℕ) (place : Option ℕ) → place_of routes.graph.switches guid ≡ place
    → keys_wanted routes keys guid number
    ≡ option_map_or (λ place. switch_keys routes keys guid place number) place (adapter_keys routes keys guid number)
unfolding keys_wanted
wanted_by routes keys guid number place is = rw is refl

-- at port 0 of a switch
pub wanted_own : (routes : RoutesState) (keys : List (List ℕ)) (guid place : ℕ) → place_of routes.graph.switches guid ≡ Some place
    → keys_wanted routes keys guid 0 ≡ option_map (key_table false) (keys_of routes keys guid)
wanted_own routes keys guid place is = wanted_by routes keys guid 0 (Some place) is

-- at a port of a switch, which another is attached to
pub wanted_there : (routes : RoutesState) (keys : List (List ℕ)) (guid place number : ℕ) (one : Option GraphPort) → place_of routes.graph.switches guid ≡ Some place
    → (number == 0) ≡ false → attached_at routes.graph.ports place number ≡ one
    → keys_wanted routes keys guid number ≡ option_and_then (λ one. option_map (key_table true) (keys_of routes keys one.port_guid)) one
wanted_there routes keys guid place number one is some attached =
    wanted_by routes keys guid number (Some place) is ∙ rw (some, attached) refl

-- at a port of an adapter
pub wanted_adapter : (routes : RoutesState) (keys : List (List ℕ)) (guid number : ℕ) (one : Option GraphPort) → place_of routes.graph.switches guid ≡ None
    → port_of routes.graph.ports guid number ≡ one
    → keys_wanted routes keys guid number ≡ option_and_then (λ one. option_map (key_table false) (keys_of routes keys one.port_guid)) one
wanted_adapter routes keys guid number one is there = wanted_by routes keys guid number None is ∙ rw there refl

-- ---- which port that is
same_ref : (a b : PortRef) → is_same_port a b ≡ true → a ≡ b
same_ref a b same =
    let parts = and_parts (a.node == b.node) (a.port == b.port) same in
    let node = eqb-true a.node b.node parts.0 in
    let number = eqb-true a.port b.port parts.1 in
    λ i. record { node = node i; port = number i }

itself : (a : PortRef) → is_same_port a a ≡ true
itself a = and_from _ _ (eq-eqb a.node a.node refl) (eq-eqb a.port a.port refl)

pub attached_is : (fabric : FabricState) (graph : GraphState) (k : ℕ) (one : GraphPort) → IsGraphOf graph fabric → slice_get graph.ports k ≡ Some one
    → attached_at graph.ports one.at.node one.at.port ≡ Some one
attached_is fabric graph k one of there =
    found_own (λ other. is_same_port other.at (port one.at.node one.at.port)) graph.ports k one there (itself one.at)
    (λ j other at same. one_is_attached fabric graph j k other one of at there (same_ref other.at one.at same))

pub port_is : (graph : GraphState) (k : ℕ) (one : GraphPort) → IsGraph graph → slice_get graph.ports k ≡ Some one
    → port_of graph.ports one.node_guid one.number ≡ Some one
port_is graph k one is there =
    found_own (λ other. (other.node_guid == one.node_guid) && (other.number == one.number)) graph.ports k one there
    (and_from _ _ (eq-eqb one.node_guid one.node_guid refl) (eq-eqb one.number one.number refl))
    (λ j other at same.
    let parts = and_parts (other.node_guid == one.node_guid) (other.number == one.number) same in
    one_number graph.ports j k other one is.agree at there (eqb-true other.node_guid one.node_guid parts.0) (eqb-true other.number one.number parts.1))

-- ---- some are written
unwrapped_twice : (table : Option (List ℕ)) (held : List ℕ) → unwrap_or table (unwrap_or table held) ≡ unwrap_or table held
unwrapped_twice None held = refl
unwrapped_twice (Some keys) held = refl

one_written : (wanted table : Option (List ℕ)) (held : List ℕ) (a b : Bool) → (b ≡ true → wanted ≡ table)
    → (if b then unwrap_or table (if a then unwrap_or wanted held else held) else (if a then unwrap_or wanted held else held))
    ≡ (if (a || b) then unwrap_or wanted held else held)
one_written wanted table held true true own =
    ap (λ (some : Option (List ℕ)). unwrap_or some (unwrap_or wanted held)) (sym (own refl)) ∙ unwrapped_twice wanted held
one_written wanted table held false true own = ap (λ (some : Option (List ℕ)). unwrap_or some held) (sym (own refl))
one_written wanted table held true false own = refl
one_written wanted table held false false own = refl

abbrev pub with_this : (ℕ → ℕ → Bool) → (guid number : ℕ) → ℕ → ℕ → Bool
with_this there guid number of_guid of_number = there of_guid of_number || ((guid == of_guid) && (number == of_number))

-- what the Sets to one table are known to do
abbrev pub PutsAt : Option FabricState → Option FabricState → Result (Unit {0}) PushFault → List ℕ → ℕ → Option (List ℕ) → Type 0
PutsAt stood left result path asked table =
    (fabric : FabricState) → stood ≡ Some fabric → (guid number : ℕ) → IsGood fabric → LeadsToPort fabric path asked guid number
    → Leaves result left fabric (with_keys (on_port guid number (λ held. unwrap_or table held)) fabric)

pub put_more : (stood left : Option FabricState) (result : Result (Unit {0}) PushFault) (fabric : FabricState) (routes : RoutesState) (keys : List (List ℕ))
    (there : ℕ → ℕ → Bool) (path : List ℕ) (asked guid number : ℕ) (table : Option (List ℕ)) → keys_wanted routes keys guid number ≡ table
    → LeadsToPort fabric path asked guid number → Stands stood fabric (with_keys (keys_where there routes keys) fabric)
    → PutsAt stood left result path asked table
    → Leaves result left fabric (with_keys (keys_where (with_this there guid number) routes keys) fabric)
put_more stood left result fabric routes keys there path asked guid number table wanted leads stands puts =
    let now = with_keys (keys_where there routes keys) fabric in
    let leaves = puts now stands.is guid number stands.good (port_on fabric now path asked guid number stands.shape leads) in
    goes_on result stood left fabric now _ _ stands leaves
    (parts_twice keys_part (on_port guid number (λ held. unwrap_or table held)) (keys_where there routes keys) (keys_where (with_this there guid number) routes keys) fabric
    (λ of_guid of_number held. one_written (keys_wanted routes keys of_guid of_number) table held (there of_guid of_number)
    ((guid == of_guid) && (number == of_number)) (own of_guid of_number)))
  where
    own : (of_guid of_number : ℕ) → ((guid == of_guid) && (number == of_number)) ≡ true → keys_wanted routes keys of_guid of_number ≡ table
    own of_guid of_number same =
        let parts = and_parts (guid == of_guid) (number == of_number) same in
        ap (λ (g : ℕ). keys_wanted routes keys g of_number) (sym (eqb-true guid of_guid parts.0))
        ∙ ap (λ (n : ℕ). keys_wanted routes keys guid n) (sym (eqb-true number of_number parts.1)) ∙ wanted

-- the same ports reported in other words
pub put_same : (routes : RoutesState) (keys : List (List ℕ)) (fabric : FabricState) (one other : ℕ → ℕ → Bool)
    → ((guid number : ℕ) → one guid number ≡ other guid number)
    → with_keys (keys_where one routes keys) fabric ≡ with_keys (keys_where other routes keys) fabric
put_same routes keys fabric one other each = λ i. with_keys (keys_where (λ guid number. each guid number i) routes keys) fabric

pub put_none : (routes : RoutesState) (keys : List (List ℕ)) (fabric : FabricState) → with_keys (keys_where (λ guid number. false) routes keys) fabric ≡ fabric
put_none routes keys fabric = parts_stay keys_part (keys_where (λ guid number. false) routes keys) fabric (λ guid number held. refl)

pub some_put : (left : Option FabricState) (result : Result (Unit {0}) PushFault) (fabric : FabricState) (guid number : ℕ) (keys : List ℕ)
    (table : Option (List ℕ)) → table ≡ Some keys → Leaves result left fabric (with_keys (on_port guid number (λ held. keys)) fabric)
    → Leaves result left fabric (with_keys (on_port guid number (λ held. unwrap_or table held)) fabric)
some_put left result fabric guid number keys table is leaves =
    subst (λ (some : Option (List ℕ)). Leaves result left fabric (with_keys (on_port guid number (λ held. unwrap_or some held)) fabric)) (sym is) leaves

none_changed : (guid number : ℕ) (of_guid of_number : ℕ) (held : List ℕ) → on_port guid number (λ (keys : List ℕ). keys) of_guid of_number held ≡ held
none_changed guid number of_guid of_number held = by ((guid == of_guid) && (number == of_number))
  where
    by : (b : Bool) → (if b then held else held) ≡ held
    by true = refl
    by false = refl

pub none_put : (stood : Option FabricState) (fabric : FabricState) (guid number : ℕ) (table : Option (List ℕ)) → table ≡ None → stood ≡ Some fabric → IsGood fabric
    → Leaves {X = Unit {0}} (Ok tt) stood fabric (with_keys (on_port guid number (λ held. unwrap_or table held)) fabric)
none_put stood fabric guid number table is stands good =
    let same : with_keys (on_port guid number (λ (held : List ℕ). unwrap_or table held)) fabric ≡ fabric =
    ap (λ (some : Option (List ℕ)). with_keys (on_port guid number (λ held. unwrap_or some held)) fabric) is
    ∙ parts_stay keys_part (on_port guid number (λ held. held)) fabric (none_changed guid number) in
    ends_as stood fabric _ _ (begins_as stood fabric _ stands good same) refl

-- ---- all are written
pub guid_there : (switches : List GraphSwitch) (place : ℕ) (switch : GraphSwitch) → slice_get switches place ≡ Some switch → guid_of switches place ≡ switch.guid
guid_there switches place switch there = ap (λ (o : Option GraphSwitch). option_map_or (λ (s : GraphSwitch). s.guid) o 0) there

pub none_wanted : (routes : RoutesState) (keys : List (List ℕ)) (guid number : ℕ) → at_switches routes.graph.switches guid number ≡ false
    → at_cables routes.graph.switches routes.graph.ports guid number ≡ false → keys_wanted routes keys guid number ≡ None
none_wanted routes keys guid number no_switch no_cable = by_place (place_of routes.graph.switches guid) refl
  where
    switches : List GraphSwitch
    switches = routes.graph.switches

    ports : List GraphPort
    ports = routes.graph.ports

    at_none : (place : ℕ) → place_of routes.graph.switches guid ≡ Some place → (number == 0) ≡ false → (one : Option GraphPort)
        → attached_at routes.graph.ports place number ≡ one → keys_wanted routes keys guid number ≡ None
    at_none place is some None attached = wanted_there routes keys guid place number None is some attached
    at_none place is some (Some one) attached =
        let at = position_at (λ switch. switch.guid == guid) routes.graph.switches place is in
        let here = found_is (λ other. is_same_port other.at (port place number)) routes.graph.ports one attached in
        let same = same_ref one.at (port place number) here.2 in
        let fails = none_there (at_cable routes.graph.switches guid number) routes.graph.ports here.0 one no_cable here.1 in
        let own : (guid_of routes.graph.switches one.at.node == guid) ≡ true =
        ap (λ (p : PortRef). guid_of routes.graph.switches p.node == guid) same
        ∙ ap (λ (g : ℕ). g == guid) (guid_there routes.graph.switches place at.0 at.1) ∙ at.2 in
        let counted : (one.at.port == number) ≡ true = eq-eqb one.at.port number (ap (λ (p : PortRef). p.port) same) in
        absurd (false≢true (sym (or_parts _ _ fails).0 ∙ and_from _ _ own counted))

    by_number : (place : ℕ) → place_of routes.graph.switches guid ≡ Some place → (b : Bool) → (number == 0) ≡ b → keys_wanted routes keys guid number ≡ None
    by_number place is true first =
        let at = position_at (λ switch. switch.guid == guid) routes.graph.switches place is in
        let fails = none_there (λ switch. (switch.guid == guid) && (0 == number)) routes.graph.switches place at.0 no_switch at.1 in
        absurd (false≢true (sym fails ∙ and_from _ _ at.2 (eq-eqb 0 number (sym (eqb-true number 0 first)))))
    by_number place is false some = at_none place is some (attached_at routes.graph.ports place number) refl

    by_port : place_of routes.graph.switches guid ≡ None → (one : Option GraphPort) → port_of routes.graph.ports guid number ≡ one
        → keys_wanted routes keys guid number ≡ None
    by_port is None none = wanted_adapter routes keys guid number None is none
    by_port is (Some one) some =
        let here = found_is (λ other. (other.node_guid == guid) && (other.number == number)) routes.graph.ports one some in
        let fails = none_there (at_cable routes.graph.switches guid number) routes.graph.ports here.0 one no_cable here.1 in
        absurd (false≢true (sym (or_parts _ _ fails).1 ∙ here.2))

    by_place : (place : Option ℕ) → place_of routes.graph.switches guid ≡ place → keys_wanted routes keys guid number ≡ None
    by_place None is = by_port is (port_of routes.graph.ports guid number) refl
    by_place (Some place) is = by_number place is (number == 0) refl

abbrev pub at_all : RoutesState → ℕ → ℕ → Bool
at_all routes guid number = at_switches routes.graph.switches guid number || at_cables routes.graph.switches routes.graph.ports guid number

pub put_all : (routes : RoutesState) (keys : List (List ℕ)) (fabric : FabricState) → with_keys (keys_where (at_all routes) routes keys) fabric ≡ keys_pushed routes keys fabric
put_all routes keys fabric = λ i. with_keys (λ guid number held. each guid number held i) fabric
  where
    by : (guid number : ℕ) (held : List ℕ) (a b : Bool) → at_switches routes.graph.switches guid number ≡ a → at_cables routes.graph.switches routes.graph.ports guid number ≡ b
        → (if (a || b) then unwrap_or (keys_wanted routes keys guid number) held else held) ≡ unwrap_or (keys_wanted routes keys guid number) held
    by guid number held true b one other = refl
    by guid number held false true one other = refl
    by guid number held false false one other = ap (λ (table : Option (List ℕ)). unwrap_or table held) (sym (none_wanted routes keys guid number one other))

    each : (guid number : ℕ) (held : List ℕ) → keys_where (at_all routes) routes keys guid number held ≡ unwrap_or (keys_wanted routes keys guid number) held
    each guid number held = by guid number held (at_switches routes.graph.switches guid number) (at_cables routes.graph.switches routes.graph.ports guid number) refl refl
