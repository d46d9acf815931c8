-- Linear forwarding tables, written block by block and switch by switch.
use Rattle.std.proofs.Common.{ℕ, ◌≡◌, ◌+◌, ◌*◌, ◌<◌, ◌≤◌, ◌==◌, ◌||◌, ◌∙◌, ap, refl, sym, Bool, true, false, if◌then◌else◌, List, [], ◌∷◌, ◌++◌, slice_set, length, take, drop, map, slice_get, Option, Some, Result, Ok, arith}
use Rattle.std.specs.Int.Digits.{AllBelowBase}
use Rattle.std.specs.List.{IsDistinct, list_any, range_with_len}
use Rattle.std.proofs.lemmas.List.{take_more_set}
use Rattle.std.proofs.lemmas.List.FromFn.{map-range_with_len_more}
use Rattle.std.proofs.Math.Nat.{zero-add}
use Rattle.std.proofs.lemmas.Bool.{eqb-true, lt-ltb}
use Rattle.std.proofs.lemmas.List.{append-nil, drop_all, take_all}
use Rattle.std.proofs.lemmas.List.Folds.{list_any_more}
use Rattle.std.proofs.lemmas.Option.{get_or_from_slice_get}
use Rattle.attr_tables.specs.Attribute.{IsAttribute}
use Rattle.attr_tables.specs.Blocks.{block_of, has_block, with_block}
use Rattle.attr_tables.specs.declared.smp_attribute.SmpAttribute.TheVariants.{LinearForwardingTable}
use Rattle.agent_rules.specs.Carried.{ports_in}
use Rattle.agent_rules.proofs.CarriedLemmas.{encoded_is_read}
use Rattle.agent_rules.proofs.TableLemmas.{block_differs}
use Rattle.smp_wire.specs.FabricState.{FabricState}
use Rattle.smp_wire.specs.Good.{IsGood, IsGoodNode}
use Rattle.smp_wire.specs.declared.node.Node.{Node}
use Rattle.smp_wire.specs.declared.node.Node.TheVariants.{Switch, Adapter}
use Rattle.switch_model.specs.Agent.{get as switch_gives, set as switch_set}
use Rattle.switch_model.specs.SwitchState.{SwitchState}
use Rattle.sweep.specs.declared.graph.GraphSwitch.{GraphSwitch}
use Rattle.updn_routes.specs.Subnet.{RoutesState, place_of}
use Rattle.table_push.specs.Fault.{compared}
use Rattle.table_push.specs.Linear.{linear_before, linear_entry, linear_pushed, linear_table, linear_to, set_linear, with_linear}
use Rattle.table_push.specs.Nodes.{on_switch, switch_by, with_switches}
use Rattle.table_push.specs.Pushes.{LeadsToSwitch, Leaves, Stands}
use Rattle.table_push.specs.declared.fault.PushFault.{PushFault}
use Rattle.agent_rules.proofs.GivenLemmas.{block_long}
use Rattle.table_push.proofs.BlockLemmas.{block_back, blocks_join}
use Rattle.table_push.proofs.GuidLemmas.{no_place, place_is}
use Rattle.table_push.proofs.LeadLemmas.{SetsAt, begins_as, ends_as, goes_on, good_switch, leads_on, switch_gives_then, switch_takes, switch_there}
use Rattle.table_push.proofs.NodeLemmas.{both_written, map_alike, none_written, same_written}

-- ---- one block
abbrev block_written : ℕ → List ℕ → SwitchState → SwitchState
block_written block entries held = record held { linear = with_block 64 block entries held.linear }

sets_block : (held : SwitchState) (block : ℕ) (entries : List ℕ) → has_block 64 block held.linear ≡ true → ports_in entries ≡ entries
    → switch_set held LinearForwardingTable block entries ≡ Ok (block_written block entries held)
unfolding switch_set
sets_block held block entries there same = rw (there, same) refl

gives_block : (held : SwitchState) (port block : ℕ) (entries : List ℕ) → has_block 64 block held.linear ≡ true → block_of 64 block held.linear ≡ entries
    → switch_gives port held LinearForwardingTable block ≡ Ok entries
unfolding switch_gives
gives_block held port block entries there same = rw (there, same) refl

compares : (entries : List ℕ) → compared LinearForwardingTable entries entries ≡ entries
unfolding compared
compares entries = refl

-- the blocks of a table of 512 LIDs
pub has_it : (block : ℕ) (table : List ℕ) → block < 8 → length table ≡ 512 → has_block 64 block table ≡ true
has_it block table below long = rw long (lt-ltb block 8 below)

block_leaves : (fabric : FabricState) (stood left : Option FabricState) (result : Result (Unit {0}) PushFault) (path : List ℕ) (guid block : ℕ) (entries : List ℕ)
    → block < 8 → IsAttribute entries → stood ≡ Some fabric → IsGood fabric → LeadsToSwitch fabric path guid
    → SetsAt stood left result path LinearForwardingTable block entries
    → Leaves result left fabric (with_switches (on_switch guid (block_written block entries)) fabric)
block_leaves fabric stood left result path guid block entries below is stands good leads sets =
    let here = switch_there fabric path guid leads in
    let long = (good_switch fabric path guid good here).linear.count in
    let has = has_it block here.held.linear below long in
    let differs = block_differs 64 block entries here.held.linear (omega arith) is.count has in
    let then_has : has_block 64 block (with_block 64 block entries here.held.linear) ≡ true =
    has_it block (with_block 64 block entries here.held.linear) below (differs.same_length ∙ long) in
    sets fabric stands (with_switches (on_switch guid (block_written block entries)) fabric) good
    (switch_takes fabric path guid (block_written block entries) LinearForwardingTable block entries good here
    (sets_block here.held block entries has (encoded_is_read.ports entries is)))
    (λ same. record {
      bytes = entries;
      given = switch_gives_then fabric path guid (block_written block entries) LinearForwardingTable block entries good here
          (gives_block (block_written block entries here.held) here.at.port block entries then_has
          (block_back 64 block entries here.held.linear (omega arith) is.count has)) same;
      same = compares entries;
    })

-- ---- one table
abbrev table_to : ℕ → ℕ → List ℕ → FabricState → FabricState
table_to guid count table fabric = with_switches (on_switch guid (linear_to count table)) fabric

pub keeps_on : (guid : ℕ) (change : SwitchState → SwitchState) → ((held : SwitchState) → (change held).node_guid ≡ held.node_guid)
    → (other : ℕ) (held : SwitchState) → (on_switch guid change other held).node_guid ≡ held.node_guid
keeps_on guid change keeps other held = by (guid == other)
  where
    by : (b : Bool) → (if b then change held else held).node_guid ≡ held.node_guid
    by true = keeps held
    by false = refl

pub on_twice : (guid : ℕ) (f g h : SwitchState → SwitchState) → ((held : SwitchState) → f (g held) ≡ h held) → (other : ℕ) (held : SwitchState)
    → on_switch guid f other (on_switch guid g other held) ≡ on_switch guid h other held
on_twice guid f g h each other held = by (guid == other)
  where
    by : (b : Bool) → (if b then f (if b then g held else held) else (if b then g held else held)) ≡ (if b then h held else held)
    by true = each held
    by false = refl

pub on_none : (guid : ℕ) (f : SwitchState → SwitchState) → ((held : SwitchState) → f held ≡ held) → (other : ℕ) (held : SwitchState)
    → on_switch guid f other held ≡ held
on_none guid f each other held = by (guid == other)
  where
    by : (b : Bool) → (if b then f held else held) ≡ held
    by true = each held
    by false = refl

pub table_begins : (stood : Option FabricState) (fabric : FabricState) (guid : ℕ) (table : List ℕ) → stood ≡ Some fabric → IsGood fabric
    → Stands stood fabric (table_to guid 0 table fabric)
table_begins stood fabric guid table stands good =
    begins_as stood fabric (table_to guid 0 table fabric) stands good
    (none_written (on_switch guid (linear_to 0 table)) fabric (on_none guid (linear_to 0 table) (λ held. refl)))

pub table_more : (stood left : Option FabricState) (result : Result (Unit {0}) PushFault) (fabric : FabricState) (path : List ℕ) (guid block : ℕ)
    (table entries : List ℕ) → block < 8 → length table ≡ 512 → AllBelowBase 256 entries → entries ≡ block_of 64 block table
    → LeadsToSwitch fabric path guid → Stands stood fabric (table_to guid (64 * block) table fabric)
    → SetsAt stood left result path LinearForwardingTable block entries
    → Leaves result left fabric (table_to guid (64 * (block + 1)) table fabric)
table_more stood left result fabric path guid block table entries below long small same leads stands sets =
    let is : IsAttribute entries = record { count = ap length same ∙ block_long 64 block table (omega arith) (has_it block table below long); small = small } in
    let now = table_to guid (64 * block) table fabric in
    let leaves = block_leaves now stood left result path guid block entries below is stands.is stands.good (leads_on fabric now path guid stands.shape leads) sets in
    let up : 64 * block + 64 ≡ 64 * (block + 1) = omega arith in
    let joined : (held : SwitchState) → block_written block entries (linear_to (64 * block) table held) ≡ linear_to (64 * (block + 1)) table held =
    λ held. ap (λ (linear : List ℕ). record held { linear = linear })
    (ap (λ (some : List ℕ). with_block 64 block some (take (64 * block) table ++ drop (64 * block) held.linear)) same
    ∙ blocks_join 64 block table held.linear (omega (arith, below, long))
    ∙ ap (λ (n : ℕ). take n table ++ drop n held.linear) up) in
    goes_on result stood left fabric now _ _ stands leaves
    (both_written (on_switch guid (block_written block entries)) (on_switch guid (linear_to (64 * block) table)) (on_switch guid (linear_to (64 * (block + 1)) table)) fabric
    (keeps_on guid (linear_to (64 * block) table) (λ held. refl))
    (on_twice guid (block_written block entries) (linear_to (64 * block) table) (linear_to (64 * (block + 1)) table) joined))

whole_node : (guid : ℕ) (table : List ℕ) (node : Node) → length table ≡ 512 → IsGoodNode node
    → switch_by (on_switch guid (linear_to 512 table)) node ≡ switch_by (on_switch guid (set_linear table)) node
whole_node guid table (Adapter ports) long good = refl
whole_node guid table (Switch held) long good =
    let count : length held.linear ≡ 512 = good.linear.count in
    let whole : take 512 table ++ drop 512 held.linear ≡ table =
    rw (take_all 512 table (omega (arith, long)), drop_all 512 held.linear (omega (arith, count))) (append-nil table) in
    ap (λ (linear : List ℕ). Switch (if guid == held.node_guid then record held { linear = linear } else held)) whole

pub table_ends : (stood : Option FabricState) (fabric : FabricState) (guid count : ℕ) (table : List ℕ) → count ≡ 512 → length table ≡ 512
    → IsGood fabric → Stands stood fabric (table_to guid count table fabric)
    → Leaves {X = Unit {0}} (Ok tt) stood fabric (with_switches (on_switch guid (set_linear table)) fabric)
table_ends stood fabric guid count table all long good stands =
    ends_as stood fabric (table_to guid count table fabric) _ stands
    (ap (λ (n : ℕ). table_to guid n table fabric) all
    ∙ ap (λ (nodes : List Node). record fabric { nodes = nodes })
    (map_alike IsGoodNode (switch_by (on_switch guid (linear_to 512 table))) (switch_by (on_switch guid (set_linear table))) fabric.nodes good.holdings
    (λ node is. whole_node guid table node long is)))

-- ---- all tables
pub push_begins : (stood : Option FabricState) (fabric : FabricState) (routes : RoutesState) → stood ≡ Some fabric → IsGood fabric
    → Stands stood fabric (with_switches (linear_before routes 0) fabric)
push_begins stood fabric routes stands good =
    begins_as stood fabric (with_switches (linear_before routes 0) fabric) stands good
    (none_written (linear_before routes 0) fabric (λ guid held. refl))

keeps_before : (routes : RoutesState) (count guid : ℕ) (held : SwitchState) → (linear_before routes count guid held).node_guid ≡ held.node_guid
keeps_before routes count guid held = by (list_any (λ switch. switch.guid == guid) (take count routes.graph.switches))
  where
    by : (b : Bool) → (if b then with_linear routes guid held else held).node_guid ≡ held.node_guid
    by true = refl
    by false = refl

its_table : (routes : RoutesState) (place guid : ℕ) (held : SwitchState) → place_of routes.graph.switches guid ≡ Some place
    → with_linear routes guid held ≡ set_linear (linear_table routes place) held
its_table routes place guid held is = rw is refl

one_more : (routes : RoutesState) (place guid : ℕ) (switch : GraphSwitch) (held : SwitchState) (a b : Bool)
    → ((switch.guid == guid) ≡ true → place_of routes.graph.switches guid ≡ Some place) → (switch.guid == guid) ≡ b
    → (if b then set_linear (linear_table routes place) (if a then with_linear routes guid held else held) else (if a then with_linear routes guid held else held))
    ≡ (if (a || b) then with_linear routes guid held else held)
one_more routes place guid switch held true true own is =
    ap (set_linear (linear_table routes place)) (its_table routes place guid held (own is)) ∙ sym (its_table routes place guid held (own is))
one_more routes place guid switch held false true own is = sym (its_table routes place guid held (own is))
one_more routes place guid switch held true false own is = refl
one_more routes place guid switch held false false own is = refl

before_more : (routes : RoutesState) (place : ℕ) (switch : GraphSwitch) → place < length routes.graph.switches
    → slice_get routes.graph.switches place ≡ Some switch → IsDistinct (λ a b. a == b) (map (λ one. one.guid) routes.graph.switches)
    → (guid : ℕ) (held : SwitchState)
    → on_switch switch.guid (set_linear (linear_table routes place)) guid (linear_before routes place guid held) ≡ linear_before routes (place + 1) guid held
before_more routes place switch within there own guid held =
    let switches = routes.graph.switches in
    let grown : list_any (λ one. one.guid == guid) (take (place + 1) switches)
    ≡ (list_any (λ one. one.guid == guid) (take place switches) || (switch.guid == guid)) =
    list_any_more (λ one. one.guid == guid) switches place switch within
    ∙ ap (λ (one : GraphSwitch). list_any (λ other. other.guid == guid) (take place switches) || (one.guid == guid)) (get_or_from_slice_get switches place switch switch there) in
    rw grown (one_more routes place guid switch held (list_any (λ one. one.guid == guid) (take place switches)) (switch.guid == guid)
    (λ same. ap (place_of switches) (sym (eqb-true switch.guid guid same)) ∙ place_is switches place switch own there) refl)

pub push_more : (stood left : Option FabricState) (result : Result (Unit {0}) PushFault) (fabric : FabricState) (routes : RoutesState) (place : ℕ) (switch : GraphSwitch)
    (table : List ℕ) → place < length routes.graph.switches → slice_get routes.graph.switches place ≡ Some switch
    → IsDistinct (λ a b. a == b) (map (λ one. one.guid) routes.graph.switches) → table ≡ linear_table routes place
    → LeadsToSwitch fabric switch.path switch.guid → Stands stood fabric (with_switches (linear_before routes place) fabric)
    → ((x : FabricState) → stood ≡ Some x → (guid : ℕ) → IsGood x → LeadsToSwitch x switch.path guid
    → Leaves result left x (with_switches (on_switch guid (set_linear table)) x))
    → Leaves result left fabric (with_switches (linear_before routes (place + 1)) fabric)
push_more stood left result fabric routes place switch table within there own is leads stands sets =
    let now = with_switches (linear_before routes place) fabric in
    let leaves = sets now stands.is switch.guid stands.good (leads_on fabric now switch.path switch.guid stands.shape leads) in
    goes_on result stood left fabric now _ _ stands leaves
    (ap (λ (some : List ℕ). with_switches (on_switch switch.guid (set_linear some)) now) is
    ∙ both_written (on_switch switch.guid (set_linear (linear_table routes place))) (linear_before routes place) (linear_before routes (place + 1)) fabric
    (keeps_before routes place) (before_more routes place switch within there own))

all_before : (routes : RoutesState) (guid : ℕ) (held : SwitchState) (b : Bool) → list_any (λ switch. switch.guid == guid) routes.graph.switches ≡ b
    → (if b then with_linear routes guid held else held) ≡ with_linear routes guid held
all_before routes guid held true is = refl
all_before routes guid held false is = rw (no_place routes.graph.switches guid is) refl

pub push_ends : (stood : Option FabricState) (fabric : FabricState) (routes : RoutesState) (count : ℕ) → length routes.graph.switches ≤ count
    → Stands stood fabric (with_switches (linear_before routes count) fabric)
    → Leaves {X = Unit {0}} (Ok tt) stood fabric (linear_pushed routes fabric)
push_ends stood fabric routes count all stands =
    ends_as stood fabric (with_switches (linear_before routes count) fabric) _ stands
    (same_written (linear_before routes count) (with_linear routes) fabric
    (λ guid held. rw (take_all count routes.graph.switches all) (all_before routes guid held (list_any (λ switch. switch.guid == guid) routes.graph.switches) refl)))

-- ---- one table, entry by entry
pub entry_more : (routes : RoutesState) (place lid entry : ℕ) (ports : List ℕ) → lid < length ports → entry ≡ linear_entry routes place lid
    → take lid ports ≡ map (linear_entry routes place) (range_with_len 0 lid)
    → take (lid + 1) (slice_set ports lid entry) ≡ map (linear_entry routes place) (range_with_len 0 (lid + 1))
entry_more routes place lid entry ports within is before =
    take_more_set ports lid entry within
    ∙ ap (λ (some : List ℕ). some ++ entry ∷ []) before
    ∙ ap (λ (one : ℕ). map (linear_entry routes place) (range_with_len 0 lid) ++ one ∷ []) is
    ∙ sym (map-range_with_len_more (linear_entry routes place) 0 lid lid (zero-add lid))

pub entries_end : (routes : RoutesState) (place count : ℕ) (ports : List ℕ) → length ports ≡ 512 → count ≡ 512
    → take count ports ≡ map (linear_entry routes place) (range_with_len 0 count) → ports ≡ linear_table routes place
entries_end routes place count ports long all are =
    sym (take_all count ports (omega (arith, long, all))) ∙ are ∙ ap (λ (n : ℕ). map (linear_entry routes place) (range_with_len 0 n)) all
