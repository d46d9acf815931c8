-- Which changes are wanted, and a fabric in which some of them are made.
use Rattle.std.proofs.Common.{ℕ, ◌≡◌, ◌<◌, ◌==◌, ◌&&◌, ◌||◌, ◌∙◌, ap, refl, sym, Bool, true, false, if◌then◌else◌, List, [], length, slice_get, Option, Some, None, Result}
use Rattle.std.specs.List.{list_any, range_with_len}
use Rattle.std.specs.Option.{option_map_or}
use Rattle.std.proofs.lemmas.Bool.{and_from, and_parts, eq-eqb, eqb-true, false≢true, or_parts}
use Rattle.std.proofs.Math.Bool.{or-true}
use Rattle.std.proofs.Math.Nat.{zero-add}
use Rattle.std.proofs.lemmas.Option.{get_or_from_slice_get, same_Some, slice_get_within}
use Rattle.step_results.proofs.ListLemmas.{range_at}
use Rattle.attr_tables.specs.declared.port_info.PortInfo.{PortInfo}
use Rattle.attr_tables.specs.declared.port_state.PortState.TheVariants.{Armed, Active}
use Rattle.fabric_parts.specs.Cable.{far_end, is_same_port, port}
use Rattle.fabric_parts.specs.declared.cable.PortRef.{PortRef}
use Rattle.lid_assign.specs.Lids.{lid_in}
use Rattle.smp_wire.specs.FabricState.{FabricState, is_switch_at}
use Rattle.smp_wire.specs.Good.{IsGood}
use Rattle.smp_wire.proofs.CableLemmas.{same_port}
use Rattle.sweep.specs.Graph.{GraphState}
use Rattle.sweep.specs.OfFabric.{IsGraphOf, node_at}
use Rattle.sweep.specs.declared.graph.GraphPort.{GraphPort}
use Rattle.sweep.specs.declared.graph.GraphLink.{GraphLink}
use Rattle.sweep.proofs.FoundLemmas.{any_by}
use Rattle.sweep.proofs.PlaceLemmas.{position_at}
use Rattle.table_push.specs.Keys.{at_cable, at_cables, guid_of, attached_at, port_of}
use Rattle.table_push.specs.Nodes.{on_port, with_infos}
use Rattle.table_push.specs.Ports.{TakesChange, adapter_change, armed, at_switch, at_switches_before, change_wanted, changed, changed_in, changed_where, enforces, has_link, in_round, stays, switch_change, with_end_set, with_state}
use Rattle.table_push.specs.Pushes.{Leaves, Stands}
use Rattle.table_push.specs.declared.fault.PushFault.{PushFault}
use Rattle.table_push.specs.declared.ports.PortChange.{PortChange}
use Rattle.table_push.specs.declared.ports.Round.{Round}
use Rattle.table_push.specs.declared.ports.Round.TheVariants.{Arming, Activating}
use Rattle.table_push.proofs.AttachedLemmas.{found_is, is_hung}
use Rattle.table_push.proofs.PartLemmas.{info_part, parts_stay, parts_twice}
use Rattle.table_push.proofs.LeadLemmas.{goes_on}
use Rattle.table_push.proofs.NodeLemmas.{none_there}
use Rattle.table_push.proofs.SiteLemmas.{linked, takes_on}
use Rattle.table_push.proofs.WantedLemmas.{guid_there, with_this}
use Rattle.updn_routes.specs.Subnet.{RoutesState, place_of}

-- ---- what is wanted
wanted_by : (routes : RoutesState) (guid number : ℕ) (place : Option ℕ) → place_of routes.graph.switches guid ≡ place
    → change_wanted routes guid number ≡ option_map_or (λ place. switch_change routes guid place number) place (adapter_change routes guid number)
unfolding change_wanted
wanted_by routes guid number place is = rw is refl

-- at port 0 of a switch
pub wanted_own : (routes : RoutesState) (guid place : ℕ) → place_of routes.graph.switches guid ≡ Some place
    → change_wanted routes guid 0 ≡ record stays { lid = lid_in routes.lids guid }
wanted_own routes guid place is = wanted_by routes guid 0 (Some place) is

-- at a port of a switch, before a port of an adapter
pub wanted_before : (routes : RoutesState) (guid place number : ℕ) (one : GraphPort) → place_of routes.graph.switches guid ≡ Some place
    → (number == 0) ≡ false → attached_at routes.graph.ports place number ≡ Some one
    → change_wanted routes guid number ≡ record stays { enforcement = Some true; active = true }
wanted_before routes guid place number one is some attached = wanted_by routes guid number (Some place) is ∙ rw (some, attached) refl

-- at one with a cable to another switch, or with none
wanted_else : (routes : RoutesState) (guid place number : ℕ) (b : Bool) → place_of routes.graph.switches guid ≡ Some place
    → (number == 0) ≡ false → attached_at routes.graph.ports place number ≡ None → has_link routes.graph place number ≡ b
    → change_wanted routes guid number ≡ (if b then record stays { enforcement = Some false; active = true } else stays)
wanted_else routes guid place number b is some attached link = wanted_by routes guid number (Some place) is ∙ rw (some, attached, link) refl

-- at a port of an adapter
pub wanted_adapter : (routes : RoutesState) (guid number : ℕ) (one : GraphPort) → place_of routes.graph.switches guid ≡ None
    → port_of routes.graph.ports guid number ≡ Some one
    → change_wanted routes guid number ≡ record stays { lid = lid_in routes.lids one.port_guid; active = true }
wanted_adapter routes guid number one is there = wanted_by routes guid number None is ∙ rw there refl

no_adapter : (routes : RoutesState) (guid number : ℕ) → place_of routes.graph.switches guid ≡ None → port_of routes.graph.ports guid number ≡ None
    → change_wanted routes guid number ≡ stays
no_adapter routes guid number is there = wanted_by routes guid number None is ∙ rw there refl

pub link_there : (graph : GraphState) (place k : ℕ) (row : List GraphLink) (link : GraphLink) → slice_get graph.rows place ≡ Some row → slice_get row k ≡ Some link
    → has_link graph place link.port ≡ true
link_there graph place k row link there at =
    ap (λ (links : List GraphLink). list_any (λ one. one.port == link.port) links) (get_or_from_slice_get graph.rows place row [] there)
    ∙ any_by (λ one. one.port == link.port) row k link at (eq-eqb link.port link.port refl)

-- where a cable leads to a switch, no adapter is attached
none_attached : (fabric : FabricState) (graph : GraphState) (place k : ℕ) (row : List GraphLink) (link : GraphLink) → IsGraphOf graph fabric
    → slice_get graph.rows place ≡ Some row → slice_get row k ≡ Some link → (found : Option GraphPort) → attached_at graph.ports place link.port ≡ found
    → found ≡ None
none_attached fabric graph place k row link of there at None attached = refl
none_attached fabric graph place k row link of there at (Some one) attached =
    let is = linked fabric graph place k row link of there at in
    let here = found_is (λ other. is_same_port other.at (port place link.port)) graph.ports one attached in
    let hung = is_hung fabric graph here.0 one of here.1 in
    let same = same_port one.at (port place link.port) here.2 in
    let far : is.there ≡ hung.there =
    same_Some _ _ (sym is.cable ∙ ap (λ (p : PortRef). far_end fabric.cables (port (node_at of.layout.found p.node) p.port)) (sym same) ∙ hung.cable) in
    absurd (false≢true (sym hung.adapter ∙ ap (λ (p : PortRef). is_switch_at fabric.nodes p.node) (sym far) ∙ is.switch))

pub wanted_link : (fabric : FabricState) (routes : RoutesState) (guid place k : ℕ) (row : List GraphLink) (link : GraphLink) → IsGraphOf routes.graph fabric
    → place_of routes.graph.switches guid ≡ Some place → (link.port == 0) ≡ false → slice_get routes.graph.rows place ≡ Some row → slice_get row k ≡ Some link
    → change_wanted routes guid link.port ≡ record stays { enforcement = Some false; active = true }
wanted_link fabric routes guid place k row link of is some there at =
    wanted_else routes guid place link.port true is some
    (none_attached fabric routes.graph place k row link of there at (attached_at routes.graph.ports place link.port) refl)
    (link_there routes.graph place k row link there at)

-- ---- some are made
-- in the first round a port may be asked twice: it is no longer in Initialize then
armed_again : (lid : Option ℕ) (enforcement : Option Bool) (active b : Bool) (info : PortInfo) → (info.port_state == 2) ≡ b
    → armed (record { lid = lid; enforcement = enforcement; active = active }) (armed (record { lid = lid; enforcement = enforcement; active = active }) info)
    ≡ armed (record { lid = lid; enforcement = enforcement; active = active }) info
armed_again None None false b info is = refl
armed_again None (Some on) false b info is = refl
armed_again (Some lid) None false b info is = refl
armed_again (Some lid) (Some on) false b info is = refl
armed_again None None true true info is = rw is refl
armed_again None (Some on) true true info is = rw is refl
armed_again (Some lid) None true true info is = rw is refl
armed_again (Some lid) (Some on) true true info is = rw is refl
armed_again None None true false info is = rw (is, is) refl
armed_again None (Some on) true false info is = rw (is, is) refl
armed_again (Some lid) None true false info is = rw (is, is) refl
armed_again (Some lid) (Some on) true false info is = rw (is, is) refl

again : (round : Round) (change : PortChange) (info : PortInfo) → in_round round change (in_round round change info) ≡ in_round round change info
again Arming change info = armed_again change.lid change.enforcement change.active (info.port_state == 2) info refl
again Activating change info = by change.active
  where
    by : (b : Bool)
        → (if b then with_state Active (if b then with_state Active info else info) else (if b then with_state Active info else info))
        ≡ (if b then with_state Active info else info)
    by true = refl
    by false = refl

one_changed : (round : Round) (wanted change : PortChange) (info : PortInfo) (a b : Bool) → (b ≡ true → wanted ≡ change)
    → (if b then in_round round change (if a then in_round round wanted info else info) else (if a then in_round round wanted info else info))
    ≡ (if (a || b) then in_round round wanted info else info)
one_changed round wanted change info true true own =
    ap (λ (some : PortChange). in_round round some (in_round round wanted info)) (sym (own refl)) ∙ again round wanted info
one_changed round wanted change info false true own = ap (λ (some : PortChange). in_round round some info) (sym (own refl))
one_changed round wanted change info true false own = refl
one_changed round wanted change info false false own = refl

-- what the Sets to one port are known to do
abbrev pub ChangesAt : Round → Option FabricState → Option FabricState → Result (Unit {0}) PushFault → List ℕ → ℕ → PortChange → Type 0
ChangesAt round stood left result path asked change =
    (fabric : FabricState) → stood ≡ Some fabric → (guid number : ℕ) → IsGood fabric → TakesChange fabric path asked guid number change
    → Leaves result left fabric (with_infos (on_port guid number (in_round round change)) fabric)

pub change_more : (round : Round) (stood left : Option FabricState) (result : Result (Unit {0}) PushFault) (fabric : FabricState) (routes : RoutesState)
    (there : ℕ → ℕ → Bool) (path : List ℕ) (asked guid number : ℕ) (change : PortChange) → change_wanted routes guid number ≡ change
    → TakesChange fabric path asked guid number change → Stands stood fabric (with_infos (changed_where round there routes) fabric)
    → ChangesAt round stood left result path asked change
    → Leaves result left fabric (with_infos (changed_where round (with_this there guid number) routes) fabric)
change_more round stood left result fabric routes there path asked guid number change wanted takes stands changes =
    let now = with_infos (changed_where round there routes) fabric in
    let leaves = changes now stands.is guid number stands.good (takes_on round fabric path asked guid number change routes there stands.shape takes) in
    goes_on result stood left fabric now _ _ stands leaves
    (parts_twice info_part (on_port guid number (in_round round change)) (changed_where round there routes) (changed_where round (with_this there guid number) routes) fabric
    (λ of_guid of_number info. one_changed round (change_wanted routes of_guid of_number) change info (there of_guid of_number)
    ((guid == of_guid) && (number == of_number)) (own of_guid of_number)))
  where
    own : (of_guid of_number : ℕ) → ((guid == of_guid) && (number == of_number)) ≡ true → change_wanted routes of_guid of_number ≡ change
    own of_guid of_number same =
        let parts = and_parts (guid == of_guid) (number == of_number) same in
        ap (λ (g : ℕ). change_wanted routes g of_number) (sym (eqb-true guid of_guid parts.0))
        ∙ ap (λ (n : ℕ). change_wanted routes guid n) (sym (eqb-true number of_number parts.1)) ∙ wanted

-- the same ports reported in other words
pub reported_same : (round : Round) (routes : RoutesState) (fabric : FabricState) (one other : ℕ → ℕ → Bool) → ((guid number : ℕ) → one guid number ≡ other guid number)
    → with_infos (changed_where round one routes) fabric ≡ with_infos (changed_where round other routes) fabric
reported_same round routes fabric one other each = λ i. with_infos (changed_where round (λ guid number. each guid number i) routes) fabric

pub reported_none : (round : Round) (routes : RoutesState) (fabric : FabricState) → with_infos (changed_where round (λ guid number. false) routes) fabric ≡ fabric
reported_none round routes fabric = parts_stay info_part (changed_where round (λ guid number. false) routes) fabric (λ guid number info. refl)

-- ---- all are made
abbrev pub at_all : RoutesState → ℕ → ℕ → Bool
at_all routes guid number =
    at_switches_before routes.graph (length routes.graph.switches) guid number || at_cables routes.graph.switches routes.graph.ports guid number

none_wanted : (routes : RoutesState) (guid number : ℕ) → at_switches_before routes.graph (length routes.graph.switches) guid number ≡ false
    → at_cables routes.graph.switches routes.graph.ports guid number ≡ false → change_wanted routes guid number ≡ stays
none_wanted routes guid number no_switch no_cable = by_place (place_of routes.graph.switches guid) refl
  where
    fails_at : (place : ℕ) → place < length routes.graph.switches → at_switch routes.graph guid number place ≡ false
    fails_at place within =
        none_there (at_switch routes.graph guid number) (range_with_len 0 (length routes.graph.switches)) place place no_switch
        (range_at 0 (length routes.graph.switches) place within ∙ ap (λ (n : ℕ). Some n) (zero-add place))

    is_own : (place : ℕ) → place_of routes.graph.switches guid ≡ Some place → (place < length routes.graph.switches) × ((guid_of routes.graph.switches place == guid) ≡ true)
    is_own place is =
        let at = position_at (λ switch. switch.guid == guid) routes.graph.switches place is in
        (slice_get_within routes.graph.switches place at.0 at.1, ap (λ (g : ℕ). g == guid) (guid_there routes.graph.switches place at.0 at.1) ∙ at.2)

    by_link : (place : ℕ) → place_of routes.graph.switches guid ≡ Some place → (number == 0) ≡ false → attached_at routes.graph.ports place number ≡ None
        → (b : Bool) → has_link routes.graph place number ≡ b → change_wanted routes guid number ≡ stays
    by_link place is some attached true link =
        let own = is_own place is in
        absurd (false≢true (sym (fails_at place own.0) ∙ and_from _ _ own.1 (ap (λ (b : Bool). (0 == number) || b) link ∙ or-true (0 == number))))
    by_link place is some attached false link = wanted_else routes guid place number false is some attached link

    by_attached : (place : ℕ) → place_of routes.graph.switches guid ≡ Some place → (number == 0) ≡ false → (one : Option GraphPort)
        → attached_at routes.graph.ports place number ≡ one → change_wanted routes guid number ≡ stays
    by_attached place is some None attached = by_link place is some attached (has_link routes.graph place number) refl
    by_attached place is some (Some one) attached =
        let here = found_is (λ other. is_same_port other.at (port place number)) routes.graph.ports one attached in
        let same = same_port one.at (port place number) here.2 in
        let fails = none_there (at_cable routes.graph.switches guid number) routes.graph.ports here.0 one no_cable here.1 in
        let own : (guid_of routes.graph.switches one.at.node == guid) ≡ true =
        ap (λ (p : PortRef). guid_of routes.graph.switches p.node == guid) same ∙ (is_own place is).1 in
        let counted : (one.at.port == number) ≡ true = eq-eqb one.at.port number (ap (λ (p : PortRef). p.port) same) in
        absurd (false≢true (sym (or_parts _ _ fails).0 ∙ and_from _ _ own counted))

    by_number : (place : ℕ) → place_of routes.graph.switches guid ≡ Some place → (b : Bool) → (number == 0) ≡ b → change_wanted routes guid number ≡ stays
    by_number place is true first =
        let own = is_own place is in
        absurd (false≢true (sym (fails_at place own.0)
        ∙ and_from _ _ own.1 (ap (λ (b : Bool). b || has_link routes.graph place number) (eq-eqb 0 number (sym (eqb-true number 0 first))))))
    by_number place is false some = by_attached place is some (attached_at routes.graph.ports place number) refl

    by_port : place_of routes.graph.switches guid ≡ None → (one : Option GraphPort) → port_of routes.graph.ports guid number ≡ one
        → change_wanted routes guid number ≡ stays
    by_port is None none = no_adapter routes guid number is none
    by_port is (Some one) some =
        let here = found_is (λ other. (other.node_guid == guid) && (other.number == number)) routes.graph.ports one some in
        let fails = none_there (at_cable routes.graph.switches guid number) routes.graph.ports here.0 one no_cable here.1 in
        absurd (false≢true (sym (or_parts _ _ fails).1 ∙ here.2))

    by_place : (place : Option ℕ) → place_of routes.graph.switches guid ≡ place → change_wanted routes guid number ≡ stays
    by_place None is = by_port is (port_of routes.graph.ports guid number) refl
    by_place (Some place) is = by_number place is (number == 0) refl

stay_as_they_are : (round : Round) (info : PortInfo) → in_round round stays info ≡ info
stay_as_they_are Arming info = refl
stay_as_they_are Activating info = refl

pub reported_all : (round : Round) (routes : RoutesState) (fabric : FabricState)
    → with_infos (changed_where round (at_all routes) routes) fabric ≡ with_infos (changed_in round routes) fabric
reported_all round routes fabric = λ i. with_infos (λ guid number info. each guid number info i) fabric
  where
    by : (guid number : ℕ) (info : PortInfo) (a b : Bool) → at_switches_before routes.graph (length routes.graph.switches) guid number ≡ a
        → at_cables routes.graph.switches routes.graph.ports guid number ≡ b
        → (if (a || b) then changed_in round routes guid number info else info) ≡ changed_in round routes guid number info
    by guid number info true b one other = refl
    by guid number info false true one other = refl
    by guid number info false false one other =
        sym (ap (λ (change : PortChange). in_round round change info) (none_wanted routes guid number one other) ∙ stay_as_they_are round info)

    each : (guid number : ℕ) (info : PortInfo) → changed_where round (at_all routes) routes guid number info ≡ changed_in round routes guid number info
    each guid number info = by guid number info (at_switches_before routes.graph (length routes.graph.switches) guid number)
        (at_cables routes.graph.switches routes.graph.ports guid number) refl refl

-- ---- both rounds
both_rounds : (lid : Option ℕ) (enforcement : Option Bool) (active b : Bool) (info : PortInfo)
    → (if active then with_state Active (enforces enforcement (with_end_set lid (if active && b then with_state Armed info else info)))
    else enforces enforcement (with_end_set lid (if active && b then with_state Armed info else info)))
    ≡ (if active then with_state Active (enforces enforcement (with_end_set lid info)) else enforces enforcement (with_end_set lid info))
both_rounds None None true true info = refl
both_rounds None (Some on) true true info = refl
both_rounds (Some lid) None true true info = refl
both_rounds (Some lid) (Some on) true true info = refl
both_rounds lid enforcement true false info = refl
both_rounds lid enforcement false b info = refl

pub rounds_change : (routes : RoutesState) (fabric : FabricState)
    → with_infos (changed_in Activating routes) (with_infos (changed_in Arming routes) fabric) ≡ with_infos (λ guid number. changed (change_wanted routes guid number)) fabric
rounds_change routes fabric =
    parts_twice info_part (changed_in Activating routes) (changed_in Arming routes) (λ guid number. changed (change_wanted routes guid number)) fabric
    (λ guid number info. let change = change_wanted routes guid number in both_rounds change.lid change.enforcement change.active (info.port_state == 2) info)
