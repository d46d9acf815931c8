-- Both ends of the cable of an adapter's port, and the tables that are written there.
use Rattle.std.proofs.Common.{ℕ, ◌≡◌, ◌+◌, ◌*◌, ◌<◌, ◌≤◌, ◌⊎◌, inl, inr, ◌==◌, ◌&&◌, ◌||◌, nat_le, nat_lt, ◌∙◌, ap, refl, sym, subst, Bool, true, false, List, [], ◌∷◌, ◌++◌, map, length, get_or, take, slice_get, Option, Some, None, Result, Ok, option_map, arith, Fits, w64}
use Rattle.std.specs.List.{IsDistinct, list_any}
use Rattle.std.specs.Option.{option_map_or}
use Rattle.std.proofs.lemmas.Bool.{and_parts, leb-true, ne_eqb, not-true}
use Rattle.std.proofs.lemmas.Bool.Decides.{nat_tests}
use Rattle.std.proofs.lemmas.List.{take_all}
use Rattle.std.proofs.lemmas.List.Folds.{list_any_more}
use Rattle.std.proofs.lemmas.Option.{get_or_from_slice_get, slice_get-get_or, slice_get_cases}
use Rattle.fabric_parts.specs.NodeType.{most_ports}
use Rattle.fabric_parts.specs.declared.node_type.NodeType.TheVariants as node_type
use Rattle.step_results.proofs.ListLemmas.{all_there}
use Rattle.smp_wire.specs.FabricState.{FabricState}
use Rattle.smp_wire.specs.Good.{IsGood}
use Rattle.sweep.specs.Graph.{GraphState, IsGraph, count_at, hops_to, is_no_switch, is_right_port, is_switch_port}
use Rattle.sweep.specs.OfFabric.{IsGraphOf}
use Rattle.sweep.specs.declared.graph.GraphPort.{GraphPort}
use Rattle.sweep.specs.declared.graph.GraphSwitch.{GraphSwitch}
use Rattle.sweep.proofs.AdapterLemmas.{no_port}
use Rattle.table_push.specs.Keys.{at_cable, at_cables, at_switches, guid_of, key_table, keys_of, keys_pushed, keys_where}
use Rattle.table_push.specs.Nodes.{with_keys}
use Rattle.table_push.specs.Pushes.{Leaves, Stands}
use Rattle.table_push.specs.declared.fault.PushFault.{PushFault}
use Rattle.step_results.proofs.DistinctLemmas.{left_part}
use Rattle.step_results.proofs.BoolLemmas.{or_assoc}
use Rattle.table_push.proofs.GuidLemmas.{no_place, place_is}
use Rattle.table_push.proofs.AttachedLemmas.{adapter_leads, switch_leads}
use Rattle.table_push.proofs.LeadLemmas.{begins_as, ends_as}
use Rattle.table_push.proofs.WantedLemmas.{PutsAt, attached_is, port_is, put_all, put_more, put_none, put_same, wanted_adapter, wanted_own, wanted_there, with_this}
use Rattle.updn_routes.specs.Subnet.{RoutesState}

-- ---- the switch that a port is attached to
pub record Attachment (graph : GraphState) (one : GraphPort) : Type 0 where
  pub switch : GraphSwitch
  pub place : one.at.node < length graph.switches
  pub there : slice_get graph.switches one.at.node ≡ Some switch
  pub from : 1 ≤ one.at.port
  pub within : one.at.port ≤ switch.num_ports
  pub near : length switch.path < 63
  pub no_switch : list_any (λ switch. switch.guid == one.node_guid) graph.switches ≡ false

pub attachment : (graph : GraphState) (k : ℕ) (one : GraphPort) → IsGraph graph → slice_get graph.ports k ≡ Some one → Attachment graph one
attachment graph k one is at =
    let right = and_parts (is_switch_port graph.switches one.at) _ (all_there (is_right_port graph.switches) graph.ports k one is.ports at) in
    let own = and_parts (nat_le 1 one.number && nat_le one.number one.num_ports) _ right.1 in
    let few = and_parts (nat_le one.num_ports (most_ports node_type.ChannelAdapter)) _ own.1 in
    let last = and_parts (is_no_switch graph.switches one.node_guid) _ few.1 in
    let numbered = and_parts (nat_le 1 one.at.port) (nat_le one.at.port (count_at graph.switches one.at.node)) right.0 in
    by (slice_get_cases graph.switches one.at.node).1 (leb-true 1 one.at.port numbered.0) (leb-true one.at.port (count_at graph.switches one.at.node) numbered.1)
    (below (hops_to graph.switches one.at.node) last.1) (not-true _ last.0)
  where
    below : (n : ℕ) → nat_lt n 63 ≡ true → n < 63
    below n h = grind (arith, nat_tests, h)

    by : ((x : GraphSwitch) × (one.at.node < length graph.switches) × (slice_get graph.switches one.at.node ≡ Some x) × (get_or graph.switches one.at.node x ≡ x))
        ⊎ ((length graph.switches ≤ one.at.node) × (slice_get graph.switches one.at.node ≡ None))
        → 1 ≤ one.at.port → one.at.port ≤ count_at graph.switches one.at.node → hops_to graph.switches one.at.node < 63
        → list_any (λ switch. switch.guid == one.node_guid) graph.switches ≡ false → Attachment graph one
    by (inr past) low high hops none =
        let no_room : count_at graph.switches one.at.node ≡ 0 = ap (λ (o : Option GraphSwitch). option_map_or (λ (switch : GraphSwitch). switch.num_ports) o 0) past.1 in
        absurd (omega (arith, low, high, no_room))
    by (inl here) low high hops none =
        let count : count_at graph.switches one.at.node ≡ here.0.num_ports = ap (λ (o : Option GraphSwitch). option_map_or (λ (switch : GraphSwitch). switch.num_ports) o 0) here.2 in
        let far : hops_to graph.switches one.at.node ≡ length here.0.path = ap (λ (o : Option GraphSwitch). option_map_or (λ (switch : GraphSwitch). length switch.path) o 0) here.2 in
        record {
          switch = here.0;
          place = here.1;
          there = here.2;
          from = low;
          within = omega (arith, high, count);
          near = omega (arith, hops, far);
          no_switch = none;
        }

pub record Home (graph : GraphState) (place : ℕ) (one : GraphPort) (switches : List GraphSwitch) : Type 0 where
  pub is : IsGraph graph
  pub at : slice_get graph.ports place ≡ Some one
  pub attachment : Attachment graph one
  pub within : one.at.node < length switches
  pub few : length switches ≤ 64
  pub same : (d : GraphSwitch) → get_or switches one.at.node d ≡ attachment.switch

pub home : (graph given : GraphState) (ports : List GraphPort) (switches : List GraphSwitch) (place : ℕ) → IsGraph given → given ≡ graph
    → ports ≡ given.ports → switches ≡ given.switches → place < length graph.ports → Home graph place (get_or ports place no_port) switches
home graph given ports switches place whole same ports_are switches_are within =
    let is = subst IsGraph same whole in
    let ports_same : ports ≡ graph.ports = ports_are ∙ ap (λ (g : GraphState). g.ports) same in
    let switches_same : switches ≡ graph.switches = switches_are ∙ ap (λ (g : GraphState). g.switches) same in
    let one = get_or ports place no_port in
    let at : slice_get graph.ports place ≡ Some one =
    slice_get-get_or graph.ports place no_port within ∙ ap (λ (some : List GraphPort). Some (get_or some place no_port)) (sym ports_same) in
    let sits = attachment graph place one is at in
    record {
      is = is;
      at = at;
      attachment = sits;
      within = omega (arith, sits.place, ap length switches_same);
      few = omega (arith, is.few_switches, ap length switches_same);
      same = λ d. ap (λ (some : List GraphSwitch). get_or some one.at.node d) switches_same ∙ get_or_from_slice_get graph.switches one.at.node sits.switch d sits.there;
    }

pub puts_along : (stood left : Option FabricState) (result : Result (Unit {0}) PushFault) (one other : List ℕ) (asked : ℕ) (table : Option (List ℕ)) → one ≡ other
    → PutsAt stood left result one asked table → PutsAt stood left result other asked table
puts_along stood left result one other asked table same puts = subst (λ (path : List ℕ). PutsAt stood left result path asked table) same puts

pub fits : (n count : ℕ) → n < count → count ≤ 64 → Fits w64 (n * 152)
fits n count below few = omega (arith, below, few)

pub own_guids : (graph : GraphState) → IsGraph graph → IsDistinct (λ a b. a == b) (map (λ one. one.guid) graph.switches)
own_guids graph is = left_part (λ a b. a == b) (map (λ (one : GraphSwitch). one.guid) graph.switches) (map (λ (one : GraphPort). one.port_guid) graph.ports) is.guids

-- ---- the two tables of a cable
pub at_switch : (stood left : Option FabricState) (result : Result (Unit {0}) PushFault) (fabric : FabricState) (routes : RoutesState) (keys : List (List ℕ))
    (there : ℕ → ℕ → Bool) (k : ℕ) (one : GraphPort) (table : Option (List ℕ)) → IsGraph routes.graph → IsGraphOf routes.graph fabric
    → slice_get routes.graph.ports k ≡ Some one → (attachment : Attachment routes.graph one) → table ≡ option_map (key_table true) (keys_of routes keys one.port_guid)
    → Stands stood fabric (with_keys (keys_where there routes keys) fabric) → PutsAt stood left result attachment.switch.path one.at.port table
    → Leaves result left fabric (with_keys (keys_where (with_this there (guid_of routes.graph.switches one.at.node) one.at.port) routes keys) fabric)
at_switch stood left result fabric routes keys there k one table is of at attachment reports stands puts =
    let guid : guid_of routes.graph.switches one.at.node ≡ attachment.switch.guid = ap (λ (o : Option GraphSwitch). option_map_or (λ (s : GraphSwitch). s.guid) o 0) attachment.there in
    let place = place_is routes.graph.switches one.at.node attachment.switch (own_guids routes.graph is) attachment.there in
    let some : (one.at.port == 0) ≡ false = ne_eqb one.at.port 0 (λ none. omega (arith, none, attachment.from)) in
    let wanted = wanted_there routes keys attachment.switch.guid one.at.node one.at.port (Some one) place some (attached_is fabric routes.graph k one of at) in
    subst (λ (g : ℕ). Leaves result left fabric (with_keys (keys_where (with_this there g one.at.port) routes keys) fabric)) (sym guid)
    (put_more stood left result fabric routes keys there attachment.switch.path one.at.port attachment.switch.guid one.at.port table (wanted ∙ sym reports)
    (switch_leads fabric routes.graph one.at.node one.at.port attachment.switch of attachment.there attachment.within) stands puts)

pub at_adapter : (stood left : Option FabricState) (result : Result (Unit {0}) PushFault) (fabric : FabricState) (routes : RoutesState) (keys : List (List ℕ))
    (there : ℕ → ℕ → Bool) (k : ℕ) (one : GraphPort) (table : Option (List ℕ)) → IsGood fabric → IsGraph routes.graph → IsGraphOf routes.graph fabric
    → slice_get routes.graph.ports k ≡ Some one → (attachment : Attachment routes.graph one) → table ≡ option_map (key_table false) (keys_of routes keys one.port_guid)
    → Stands stood fabric (with_keys (keys_where there routes keys) fabric) → PutsAt stood left result (attachment.switch.path ++ one.at.port ∷ []) 0 table
    → Leaves result left fabric (with_keys (keys_where (with_this there one.node_guid one.number) routes keys) fabric)
at_adapter stood left result fabric routes keys there k one table good is of at attachment reports stands puts =
    let wanted = wanted_adapter routes keys one.node_guid one.number (Some one) (no_place routes.graph.switches one.node_guid attachment.no_switch)
    (port_is routes.graph k one is at) in
    put_more stood left result fabric routes keys there (attachment.switch.path ++ one.at.port ∷ []) 0 one.node_guid one.number table (wanted ∙ sym reports)
    (adapter_leads fabric routes.graph k one attachment.switch good of at attachment.there) stands puts

pub cable_ends : (result : Result (Unit {0}) PushFault) (left : Option FabricState) (fabric : FabricState) (routes : RoutesState) (keys : List (List ℕ))
    (there : ℕ → ℕ → Bool) (one named : GraphPort) → one ≡ named
    → Leaves result left fabric (with_keys (keys_where (with_this (with_this there (guid_of routes.graph.switches one.at.node) one.at.port) one.node_guid one.number) routes keys) fabric)
    → Leaves result left fabric (with_keys (keys_where (λ guid number. there guid number || at_cable routes.graph.switches guid number named) routes keys) fabric)
cable_ends result left fabric routes keys there one named same leaves =
    subst (λ (port : GraphPort). Leaves result left fabric (with_keys (keys_where (λ guid number. there guid number || at_cable routes.graph.switches guid number port) routes keys) fabric)) same
    (subst (Leaves result left fabric)
    (put_same routes keys fabric _ _ (λ guid number. or_assoc (there guid number) ((guid_of routes.graph.switches one.at.node == guid) && (one.at.port == number))
    ((one.node_guid == guid) && (one.number == number)))) leaves)

-- ---- all cables
abbrev pub at_first : RoutesState → ℕ → ℕ → ℕ → Bool
at_first routes count guid number =
    at_switches routes.graph.switches guid number || at_cables routes.graph.switches (take count routes.graph.ports) guid number

pub cables_begin : (stood : Option FabricState) (fabric : FabricState) (routes : RoutesState) (keys : List (List ℕ))
    → Stands stood fabric (with_keys (keys_where (at_switches routes.graph.switches) routes keys) fabric)
    → Stands stood fabric (with_keys (keys_where (at_first routes 0) routes keys) fabric)
cables_begin stood fabric routes keys stands =
    subst (Stands stood fabric) (put_same routes keys fabric _ _ (λ guid number. by (at_switches routes.graph.switches guid number))) stands
  where
    by : (b : Bool) → b ≡ (b || false)
    by true = refl
    by false = refl

pub cables_more : (result : Result (Unit {0}) PushFault) (left : Option FabricState) (fabric : FabricState) (routes : RoutesState) (keys : List (List ℕ))
    (place : ℕ) (one : GraphPort) → place < length routes.graph.ports → slice_get routes.graph.ports place ≡ Some one
    → Leaves result left fabric (with_keys (keys_where (λ guid number. at_first routes place guid number || at_cable routes.graph.switches guid number one) routes keys) fabric)
    → Leaves result left fabric (with_keys (keys_where (at_first routes (place + 1)) routes keys) fabric)
cables_more result left fabric routes keys place one within there leaves =
    subst (Leaves result left fabric) (put_same routes keys fabric _ _ (λ guid number. each guid number)) leaves
  where
    each : (guid number : ℕ) → (at_first routes place guid number || at_cable routes.graph.switches guid number one) ≡ at_first routes (place + 1) guid number
    each guid number =
        or_assoc (at_switches routes.graph.switches guid number) (at_cables routes.graph.switches (take place routes.graph.ports) guid number) (at_cable routes.graph.switches guid number one)
        ∙ ap (λ (b : Bool). at_switches routes.graph.switches guid number || b)
        (ap (λ (other : GraphPort). list_any (at_cable routes.graph.switches guid number) (take place routes.graph.ports) || at_cable routes.graph.switches guid number other)
        (sym (get_or_from_slice_get routes.graph.ports place one one there))
        ∙ sym (list_any_more (at_cable routes.graph.switches guid number) routes.graph.ports place one within))

pub cables_end : (stood : Option FabricState) (fabric : FabricState) (routes : RoutesState) (keys : List (List ℕ)) (count : ℕ) → length routes.graph.ports ≤ count
    → Stands stood fabric (with_keys (keys_where (at_first routes count) routes keys) fabric)
    → Leaves {X = Unit {0}} (Ok tt) stood fabric (keys_pushed routes keys fabric)
cables_end stood fabric routes keys count all stands =
    ends_as stood fabric (with_keys (keys_where (at_first routes count) routes keys) fabric) _ stands
    (ap (λ (ports : List GraphPort). with_keys (keys_where (λ guid number. at_switches routes.graph.switches guid number || at_cables routes.graph.switches ports guid number) routes keys) fabric)
    (take_all count routes.graph.ports all) ∙ put_all routes keys fabric)

-- ---- port 0 of each switch
pub switches_more : (stood left : Option FabricState) (result : Result (Unit {0}) PushFault) (fabric : FabricState) (routes : RoutesState) (keys : List (List ℕ))
    (place : ℕ) (switch : GraphSwitch) (table : Option (List ℕ)) → IsGraph routes.graph → IsGraphOf routes.graph fabric → place < length routes.graph.switches
    → slice_get routes.graph.switches place ≡ Some switch → table ≡ option_map (key_table false) (keys_of routes keys switch.guid)
    → Stands stood fabric (with_keys (keys_where (at_switches (take place routes.graph.switches)) routes keys) fabric)
    → PutsAt stood left result switch.path 0 table
    → Leaves result left fabric (with_keys (keys_where (at_switches (take (place + 1) routes.graph.switches)) routes keys) fabric)
switches_more stood left result fabric routes keys place switch table is of within there reports stands puts =
    let own = place_is routes.graph.switches place switch (own_guids routes.graph is) there in
    let leads = switch_leads fabric routes.graph place 0 switch of there (omega arith) in
    let grown : (guid number : ℕ) → with_this (at_switches (take place routes.graph.switches)) switch.guid 0 guid number ≡ at_switches (take (place + 1) routes.graph.switches) guid number =
    λ guid number. ap (λ (other : GraphSwitch). at_switches (take place routes.graph.switches) guid number || ((other.guid == guid) && (0 == number)))
    (sym (get_or_from_slice_get routes.graph.switches place switch switch there))
    ∙ sym (list_any_more (λ one. (one.guid == guid) && (0 == number)) routes.graph.switches place switch within) in
    subst (Leaves result left fabric) (put_same routes keys fabric _ _ grown)
    (put_more stood left result fabric routes keys (at_switches (take place routes.graph.switches)) switch.path 0 switch.guid 0 table
    (wanted_own routes keys switch.guid place own ∙ sym reports) leads stands puts)

-- which switch stands at a place of the graph
pub switch_at : (graph given : GraphState) (switches : List GraphSwitch) (place : ℕ) (d switch : GraphSwitch) → given ≡ graph → switches ≡ given.switches
    → place < length switches → switch ≡ get_or switches place d → slice_get graph.switches place ≡ Some switch
switch_at graph given switches place d switch same are within is =
    let switches_same : switches ≡ graph.switches = are ∙ ap (λ (g : GraphState). g.switches) same in
    ap (λ (some : List GraphSwitch). slice_get some place) (sym switches_same) ∙ slice_get-get_or switches place d within
    ∙ ap (λ (one : GraphSwitch). Some one) (sym is)

pub place_within : (graph given : GraphState) (switches : List GraphSwitch) (place : ℕ) → given ≡ graph → switches ≡ given.switches → place < length switches
    → place < length graph.switches
place_within graph given switches place same are within = omega (arith, within, ap length are, ap (λ (g : GraphState). length g.switches) same)

pub switches_begin : (stood : Option FabricState) (fabric : FabricState) (routes : RoutesState) (keys : List (List ℕ)) → stood ≡ Some fabric → IsGood fabric
    → Stands stood fabric (with_keys (keys_where (at_switches []) routes keys) fabric)
switches_begin stood fabric routes keys stands good = begins_as stood fabric _ stands good (put_none routes keys fabric)

pub switches_end : (stood : Option FabricState) (fabric : FabricState) (routes : RoutesState) (keys : List (List ℕ)) (count : ℕ) → length routes.graph.switches ≤ count
    → Stands stood fabric (with_keys (keys_where (at_switches (take count routes.graph.switches)) routes keys) fabric)
    → Leaves {X = Unit {0}} (Ok tt) stood fabric (with_keys (keys_where (at_switches routes.graph.switches) routes keys) fabric)
switches_end stood fabric routes keys count all stands =
    ends_as stood fabric _ _ stands
    (ap (λ (switches : List GraphSwitch). with_keys (keys_where (at_switches switches) routes keys) fabric) (take_all count routes.graph.switches all))
