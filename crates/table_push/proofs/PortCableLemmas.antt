-- The ports of a graph's switches, and both ends of the cables of adapters' ports, set up one after the other.
use Rattle.std.proofs.Common.{ℕ, suc, ◌≡◌, ◌+◌, ◌<◌, ◌≤◌, ◌==◌, ◌&&◌, ◌||◌, ◌∙◌, ap, refl, sym, subst, Bool, true, false, List, [], ◌∷◌, ◌++◌, length, get_or, take, slice_get, Option, Some, None, Result, Ok, arith}
use Rattle.std.specs.List.{list_any, range_with_len}
use Rattle.std.proofs.Math.Bool.{or-false}
use Rattle.std.proofs.Math.Nat.{zero-add}
use Rattle.std.proofs.lemmas.Bool.{ne_eqb}
use Rattle.std.proofs.lemmas.List.{take_all}
use Rattle.std.proofs.lemmas.List.Folds.{list_any-append, list_any_more}
use Rattle.std.proofs.lemmas.Option.{get_or_from_slice_get, slice_get-get_or}
use Rattle.step_results.proofs.BoolLemmas.{or_assoc, or_none}
use Rattle.lid_assign.specs.Lids.{lid_in}
use Rattle.smp_wire.specs.FabricState.{FabricState}
use Rattle.smp_wire.specs.Good.{IsGood, ShowsLinks}
use Rattle.sweep.specs.Graph.{GraphState, IsGraph}
use Rattle.sweep.specs.OfFabric.{IsGraphOf}
use Rattle.sweep.specs.declared.graph.GraphPort.{GraphPort}
use Rattle.sweep.specs.declared.graph.GraphSwitch.{GraphSwitch}
use Rattle.sweep.specs.declared.graph.GraphLink.{GraphLink}
use Rattle.step_results.proofs.RangeLemmas.{range_more}
use Rattle.table_push.specs.Keys.{at_cable, at_cables, guid_of}
use Rattle.table_push.specs.Nodes.{with_infos}
use Rattle.table_push.specs.Ports.{at_switch, at_switches_before, changed_in, changed_where, has_link, stays}
use Rattle.table_push.specs.Pushes.{Leaves, Stands}
use Rattle.table_push.specs.declared.fault.PushFault.{PushFault}
use Rattle.table_push.specs.declared.ports.PortChange.{PortChange}
use Rattle.table_push.specs.declared.ports.Round.{Round}
use Rattle.table_push.proofs.CableLemmas.{Attachment, own_guids}
use Rattle.table_push.proofs.GuidLemmas.{no_place, place_is}
use Rattle.table_push.proofs.LeadLemmas.{begins_as, ends_as}
use Rattle.table_push.proofs.SiteLemmas.{link_number, takes_adapter, takes_before, takes_link, takes_own}
use Rattle.table_push.proofs.WantedChangeLemmas.{ChangesAt, change_more, reported_all, reported_none, reported_same, wanted_adapter, wanted_before, wanted_link, wanted_own}
use Rattle.table_push.proofs.WantedLemmas.{guid_there, attached_is, port_is, with_this}
use Rattle.updn_routes.specs.Subnet.{RoutesState}

-- ---- the ports of a switch with links
abbrev pub with_links : (ℕ → ℕ → Bool) → ℕ → List GraphLink → ℕ → ℕ → Bool
with_links there guid links of_guid of_number = there of_guid of_number || ((guid == of_guid) && list_any (λ link. link.port == of_number) links)

or_both : (a b c d : Bool) → ((a || (b && c)) || (b && d)) ≡ (a || (b && (c || d)))
or_both true b c d = refl
or_both false true c d = refl
or_both false false c d = refl

pub links_begin : (round : Round) (stood : Option FabricState) (fabric : FabricState) (routes : RoutesState) (there : ℕ → ℕ → Bool) (guid : ℕ)
    → Stands stood fabric (with_infos (changed_where round there routes) fabric)
    → Stands stood fabric (with_infos (changed_where round (with_links there guid []) routes) fabric)
links_begin round stood fabric routes there guid stands =
    subst (Stands stood fabric) (reported_same round routes fabric _ _ (λ of_guid of_number. sym (or_none (there of_guid of_number) (guid == of_guid)))) stands

pub links_more : (round : Round) (stood left : Option FabricState) (result : Result (Unit {0}) PushFault) (fabric : FabricState) (routes : RoutesState) (there : ℕ → ℕ → Bool)
    (place k : ℕ) (switch : GraphSwitch) (row : List GraphLink) (link : GraphLink) → IsGood fabric → ShowsLinks fabric → IsGraph routes.graph → IsGraphOf routes.graph fabric
    → slice_get routes.graph.switches place ≡ Some switch → slice_get routes.graph.rows place ≡ Some row → slice_get row k ≡ Some link → k < length row
    → Stands stood fabric (with_infos (changed_where round (with_links there (guid_of routes.graph.switches place) (take k row)) routes) fabric)
    → ChangesAt round stood left result switch.path link.port (record stays { enforcement = Some false; active = true })
    → Leaves result left fabric (with_infos (changed_where round (with_links there (guid_of routes.graph.switches place) (take (k + 1) row)) routes) fabric)
links_more round stood left result fabric routes there place k switch row link good shows is of home has at within stands changes =
    let guid = guid_of routes.graph.switches place in
    let named : guid ≡ switch.guid = guid_there routes.graph.switches place switch home in
    let own = place_is routes.graph.switches place switch (own_guids routes.graph is) home in
    let some : (link.port == 0) ≡ false = link_number fabric routes.graph place k row link good of has at in
    let leaves = change_more round stood left result fabric routes (with_links there guid (take k row)) switch.path link.port switch.guid link.port
    (record stays { enforcement = Some false; active = true }) (wanted_link fabric routes switch.guid place k row link of own some has at)
    (takes_link fabric good shows routes.graph place k row link switch of home has at) stands changes in
    let grown : (of_guid of_number : ℕ) → with_this (with_links there guid (take k row)) switch.guid link.port of_guid of_number ≡ with_links there guid (take (k + 1) row) of_guid of_number =
    λ of_guid of_number.
    ap (λ (g : ℕ). with_links there guid (take k row) of_guid of_number || ((g == of_guid) && (link.port == of_number))) (sym named)
    ∙ or_both (there of_guid of_number) (guid == of_guid) (list_any (λ one. one.port == of_number) (take k row)) (link.port == of_number)
    ∙ ap (λ (b : Bool). there of_guid of_number || ((guid == of_guid) && b))
    (ap (λ (one : GraphLink). list_any (λ other. other.port == of_number) (take k row) || (one.port == of_number)) (sym (get_or_from_slice_get row k link link at))
    ∙ sym (list_any_more (λ one. one.port == of_number) row k link within)) in
    subst (Leaves result left fabric) (reported_same round routes fabric _ _ grown) leaves

pub links_end : (round : Round) (stood : Option FabricState) (fabric : FabricState) (routes : RoutesState) (there : ℕ → ℕ → Bool) (place count : ℕ) (row : List GraphLink)
    → slice_get routes.graph.rows place ≡ Some row → length row ≤ count
    → Stands stood fabric (with_infos (changed_where round (with_links there (guid_of routes.graph.switches place) (take count row)) routes) fabric)
    → Leaves {X = Unit {0}} (Ok tt) stood fabric
    (with_infos (changed_where round (λ guid number. there guid number || ((guid_of routes.graph.switches place == guid) && has_link routes.graph place number)) routes) fabric)
links_end round stood fabric routes there place count row has all stands =
    let same : take count row ≡ get_or routes.graph.rows place [] = take_all count row all ∙ sym (get_or_from_slice_get routes.graph.rows place row [] has) in
    ends_as stood fabric _ _ stands
    (λ i. with_infos (changed_where round (with_links there (guid_of routes.graph.switches place) (same i)) routes) fabric)

and_both : (a b c : Bool) → ((a && b) || (a && c)) ≡ (a && (b || c))
and_both true b c = refl
and_both false b c = refl

pub own_reported : (round : Round) (stood left : Option FabricState) (result : Result (Unit {0}) PushFault) (fabric : FabricState) (routes : RoutesState) (there : ℕ → ℕ → Bool)
    (place : ℕ) (switch : GraphSwitch) (change : PortChange) → IsGood fabric → ShowsLinks fabric → IsGraph routes.graph → IsGraphOf routes.graph fabric
    → slice_get routes.graph.switches place ≡ Some switch → length routes.lids ≤ 320 → change ≡ record stays { lid = lid_in routes.lids switch.guid }
    → Stands stood fabric (with_infos (changed_where round there routes) fabric) → ChangesAt round stood left result switch.path 0 change
    → Leaves result left fabric (with_infos (changed_where round (with_this there (guid_of routes.graph.switches place) 0) routes) fabric)
own_reported round stood left result fabric routes there place switch change good shows is of home few same stands changes =
    let own = place_is routes.graph.switches place switch (own_guids routes.graph is) home in
    subst (λ (guid : ℕ). Leaves result left fabric (with_infos (changed_where round (with_this there guid 0) routes) fabric))
    (sym (guid_there routes.graph.switches place switch home))
    (change_more round stood left result fabric routes there switch.path 0 switch.guid 0 (record stays { lid = lid_in routes.lids switch.guid })
    (wanted_own routes switch.guid place own) (takes_own fabric good shows routes.graph place switch routes.lids of home few) stands
    (subst (ChangesAt round stood left result switch.path 0) same changes))

pub switch_reported : (round : Round) (result : Result (Unit {0}) PushFault) (left : Option FabricState) (fabric : FabricState) (routes : RoutesState) (there : ℕ → ℕ → Bool) (place : ℕ)
    → Leaves result left fabric (with_infos (changed_where round (λ guid number. with_this there (guid_of routes.graph.switches place) 0 guid number
    || ((guid_of routes.graph.switches place == guid) && has_link routes.graph place number)) routes) fabric)
    → Leaves result left fabric (with_infos (changed_where round (λ guid number. there guid number || at_switch routes.graph guid number place) routes) fabric)
switch_reported round result left fabric routes there place leaves =
    subst (Leaves result left fabric) (reported_same round routes fabric _ _ (λ guid number.
    or_assoc (there guid number) ((guid_of routes.graph.switches place == guid) && (0 == number)) ((guid_of routes.graph.switches place == guid) && has_link routes.graph place number)
    ∙ ap (λ (b : Bool). there guid number || b) (and_both (guid_of routes.graph.switches place == guid) (0 == number) (has_link routes.graph place number)))) leaves

-- ---- all switches
any_below : (p : ℕ → Bool) (count : ℕ) → list_any p (range_with_len 0 (count + 1)) ≡ (list_any p (range_with_len 0 count) || p count)
any_below p count =
    let next : count + 1 ≡ suc count = omega arith in
    ap (λ (n : ℕ). list_any p (range_with_len 0 n)) next ∙ ap (list_any p) (range_more 0 count)
    ∙ list_any-append p (range_with_len 0 count) ((0 + count) ∷ [])
    ∙ ap (λ (n : ℕ). list_any p (range_with_len 0 count) || (p n || false)) (zero-add count)
    ∙ ap (λ (b : Bool). list_any p (range_with_len 0 count) || b) (or-false (p count))

pub switches_begin : (round : Round) (stood : Option FabricState) (fabric : FabricState) (routes : RoutesState) → stood ≡ Some fabric → IsGood fabric
    → Stands stood fabric (with_infos (changed_where round (at_switches_before routes.graph 0) routes) fabric)
switches_begin round stood fabric routes stands good = begins_as stood fabric _ stands good (reported_none round routes fabric)

pub switches_more : (round : Round) (result : Result (Unit {0}) PushFault) (left : Option FabricState) (fabric : FabricState) (routes : RoutesState) (place : ℕ)
    → Leaves result left fabric (with_infos (changed_where round (λ guid number. at_switches_before routes.graph place guid number || at_switch routes.graph guid number place) routes) fabric)
    → Leaves result left fabric (with_infos (changed_where round (at_switches_before routes.graph (place + 1)) routes) fabric)
switches_more round result left fabric routes place leaves =
    subst (Leaves result left fabric) (reported_same round routes fabric _ _ (λ guid number. sym (any_below (at_switch routes.graph guid number) place))) leaves

pub switches_end : (round : Round) (stood : Option FabricState) (fabric : FabricState) (routes : RoutesState) (place count : ℕ) → place ≡ count
    → Stands stood fabric (with_infos (changed_where round (at_switches_before routes.graph place) routes) fabric)
    → Leaves {X = Unit {0}} (Ok tt) stood fabric (with_infos (changed_where round (at_switches_before routes.graph count) routes) fabric)
switches_end round stood fabric routes place count all stands =
    ends_as stood fabric _ _ stands (ap (λ (n : ℕ). with_infos (changed_where round (at_switches_before routes.graph n) routes) fabric) all)

-- ---- what the code has read
abbrev pub no_link : GraphLink
no_link = record { port = 0; to = record { node = 0; port = 0 } }

pub changes_along : (round : Round) (stood left : Option FabricState) (result : Result (Unit {0}) PushFault) (one other : List ℕ) (asked : ℕ) (change : PortChange) → one ≡ other
    → ChangesAt round stood left result one asked change → ChangesAt round stood left result other asked change
changes_along round stood left result one other asked change same changes = subst (λ (path : List ℕ). ChangesAt round stood left result path asked change) same changes

-- the row of a switch of the graph
pub row_at : (graph given : GraphState) (rows : List (List GraphLink)) (place : ℕ) (d row links : List GraphLink) → given ≡ graph → rows ≡ given.rows
    → place < length rows → row ≡ get_or rows place d → links ≡ row → slice_get graph.rows place ≡ Some links
row_at graph given rows place d row links same are within is links_are =
    let rows_same : rows ≡ graph.rows = are ∙ ap (λ (g : GraphState). g.rows) same in
    ap (λ (some : List (List GraphLink)). slice_get some place) (sym rows_same) ∙ slice_get-get_or rows place d within
    ∙ ap (λ (one : List GraphLink). Some one) (sym is ∙ sym links_are)

pub row_within : (graph given : GraphState) (rows : List (List GraphLink)) (place : ℕ) → IsGraph given → given ≡ graph → rows ≡ given.rows
    → place < length graph.switches → place < length rows
row_within graph given rows place is same are within =
    omega (arith, within, ap length are, is.a_row_each, ap (λ (g : GraphState). length g.switches) same)

-- ---- both ends of a cable
pub before_reported : (round : Round) (stood left : Option FabricState) (result : Result (Unit {0}) PushFault) (fabric : FabricState) (routes : RoutesState) (there : ℕ → ℕ → Bool)
    (k : ℕ) (one : GraphPort) → IsGood fabric → ShowsLinks fabric → IsGraph routes.graph → IsGraphOf routes.graph fabric
    → slice_get routes.graph.ports k ≡ Some one → (attachment : Attachment routes.graph one)
    → Stands stood fabric (with_infos (changed_where round there routes) fabric)
    → ChangesAt round stood left result attachment.switch.path one.at.port (record stays { enforcement = Some true; active = true })
    → Leaves result left fabric (with_infos (changed_where round (with_this there (guid_of routes.graph.switches one.at.node) one.at.port) routes) fabric)
before_reported round stood left result fabric routes there k one good shows is of at attachment stands changes =
    let place = place_is routes.graph.switches one.at.node attachment.switch (own_guids routes.graph is) attachment.there in
    let some : (one.at.port == 0) ≡ false = ne_eqb one.at.port 0 (λ none. omega (arith, none, attachment.from)) in
    subst (λ (guid : ℕ). Leaves result left fabric (with_infos (changed_where round (with_this there guid one.at.port) routes) fabric))
    (sym (guid_there routes.graph.switches one.at.node attachment.switch attachment.there))
    (change_more round stood left result fabric routes there attachment.switch.path one.at.port attachment.switch.guid one.at.port (record stays { enforcement = Some true; active = true })
    (wanted_before routes attachment.switch.guid one.at.node one.at.port one place some (attached_is fabric routes.graph k one of at))
    (takes_before fabric good shows routes.graph k one attachment.switch of at attachment.there) stands changes)

pub adapter_reported : (round : Round) (stood left : Option FabricState) (result : Result (Unit {0}) PushFault) (fabric : FabricState) (routes : RoutesState) (there : ℕ → ℕ → Bool)
    (k : ℕ) (one : GraphPort) (change : PortChange) → IsGood fabric → ShowsLinks fabric → IsGraph routes.graph → IsGraphOf routes.graph fabric
    → slice_get routes.graph.ports k ≡ Some one → (attachment : Attachment routes.graph one) → length routes.lids ≤ 320
    → change ≡ record stays { lid = lid_in routes.lids one.port_guid; active = true }
    → Stands stood fabric (with_infos (changed_where round there routes) fabric) → ChangesAt round stood left result (attachment.switch.path ++ one.at.port ∷ []) 0 change
    → Leaves result left fabric (with_infos (changed_where round (with_this there one.node_guid one.number) routes) fabric)
adapter_reported round stood left result fabric routes there k one change good shows is of at attachment few same stands changes =
    change_more round stood left result fabric routes there (attachment.switch.path ++ one.at.port ∷ []) 0 one.node_guid one.number
    (record stays { lid = lid_in routes.lids one.port_guid; active = true })
    (wanted_adapter routes one.node_guid one.number one (no_place routes.graph.switches one.node_guid attachment.no_switch) (port_is routes.graph k one is at))
    (takes_adapter fabric good shows routes.graph k one attachment.switch routes.lids of at attachment.there few) stands
    (subst (ChangesAt round stood left result (attachment.switch.path ++ one.at.port ∷ []) 0) same changes)

pub cable_reported : (round : Round) (result : Result (Unit {0}) PushFault) (left : Option FabricState) (fabric : FabricState) (routes : RoutesState)
    (there : ℕ → ℕ → Bool) (one named : GraphPort) → one ≡ named
    → Leaves result left fabric (with_infos (changed_where round (with_this (with_this there (guid_of routes.graph.switches one.at.node) one.at.port) one.node_guid one.number) routes) fabric)
    → Leaves result left fabric (with_infos (changed_where round (λ guid number. there guid number || at_cable routes.graph.switches guid number named) routes) fabric)
cable_reported round result left fabric routes there one named same leaves =
    subst (λ (port : GraphPort). Leaves result left fabric (with_infos (changed_where round (λ guid number. there guid number || at_cable routes.graph.switches guid number port) routes) fabric)) same
    (subst (Leaves result left fabric)
    (reported_same round routes fabric _ _ (λ guid number. or_assoc (there guid number) ((guid_of routes.graph.switches one.at.node == guid) && (one.at.port == number))
    ((one.node_guid == guid) && (one.number == number)))) leaves)

-- ---- all cables
abbrev pub at_first : RoutesState → ℕ → ℕ → ℕ → Bool
at_first routes count guid number =
    at_switches_before routes.graph (length routes.graph.switches) guid number || at_cables routes.graph.switches (take count routes.graph.ports) guid number

pub cables_begin : (round : Round) (stood : Option FabricState) (fabric : FabricState) (routes : RoutesState)
    → Stands stood fabric (with_infos (changed_where round (at_switches_before routes.graph (length routes.graph.switches)) routes) fabric)
    → Stands stood fabric (with_infos (changed_where round (at_first routes 0) routes) fabric)
cables_begin round stood fabric routes stands =
    subst (Stands stood fabric) (reported_same round routes fabric _ _ (λ guid number. sym (or-false (at_switches_before routes.graph (length routes.graph.switches) guid number)))) stands

pub cables_more : (round : Round) (result : Result (Unit {0}) PushFault) (left : Option FabricState) (fabric : FabricState) (routes : RoutesState)
    (place : ℕ) (one : GraphPort) → place < length routes.graph.ports → slice_get routes.graph.ports place ≡ Some one
    → Leaves result left fabric (with_infos (changed_where round (λ guid number. at_first routes place guid number || at_cable routes.graph.switches guid number one) routes) fabric)
    → Leaves result left fabric (with_infos (changed_where round (at_first routes (place + 1)) routes) fabric)
cables_more round result left fabric routes place one within there leaves =
    subst (Leaves result left fabric) (reported_same round routes fabric _ _ (λ guid number. each guid number)) leaves
  where
    each : (guid number : ℕ) → (at_first routes place guid number || at_cable routes.graph.switches guid number one) ≡ at_first routes (place + 1) guid number
    each guid number =
        let before = at_switches_before routes.graph (length routes.graph.switches) guid number in
        or_assoc before (at_cables routes.graph.switches (take place routes.graph.ports) guid number) (at_cable routes.graph.switches guid number one)
        ∙ ap (λ (b : Bool). before || b)
        (ap (λ (other : GraphPort). list_any (at_cable routes.graph.switches guid number) (take place routes.graph.ports) || at_cable routes.graph.switches guid number other)
        (sym (get_or_from_slice_get routes.graph.ports place one one there))
        ∙ sym (list_any_more (at_cable routes.graph.switches guid number) routes.graph.ports place one within))

pub cables_end : (round : Round) (stood : Option FabricState) (fabric : FabricState) (routes : RoutesState) (count : ℕ) → length routes.graph.ports ≤ count
    → Stands stood fabric (with_infos (changed_where round (at_first routes count) routes) fabric)
    → Leaves {X = Unit {0}} (Ok tt) stood fabric (with_infos (changed_in round routes) fabric)
cables_end round stood fabric routes count all stands =
    ends_as stood fabric (with_infos (changed_where round (at_first routes count) routes) fabric) _ stands
    (ap (λ (ports : List GraphPort). with_infos (changed_where round (λ guid number. at_switches_before routes.graph (length routes.graph.switches) guid number
    || at_cables routes.graph.switches ports guid number) routes) fabric) (take_all count routes.graph.ports all)
    ∙ reported_all round routes fabric)

-- the LID that the code looked up
pub own_change : (guid : ℕ) (given lids : List ℕ) (lid : Option ℕ) → lid ≡ lid_in given guid → given ≡ lids
    → ◌≡◌ {A = PortChange} (record { lid = lid; enforcement = None; active = false }) (record stays { lid = lid_in lids guid })
own_change guid given lids lid is same = λ i. record stays { lid = (is ∙ ap (λ (some : List ℕ). lid_in some guid) same) i }

pub adapter_own : (guid : ℕ) (given lids : List ℕ) (lid : Option ℕ) → lid ≡ lid_in given guid → given ≡ lids
    → ◌≡◌ {A = PortChange} (record { lid = lid; enforcement = None; active = true }) (record stays { lid = lid_in lids guid; active = true })
adapter_own guid given lids lid is same = λ i. record stays { lid = (is ∙ ap (λ (some : List ℕ). lid_in some guid) same) i; active = true }
