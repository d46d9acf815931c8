-- MlidRanges of masks, written position by position and switch by switch.
use Rattle.std.proofs.Common.{ℕ, zero, suc, ◌≡◌, ◌+◌, ◌*◌, ◌/◌, ◌%◌, ◌<◌, ◌≤◌, ◌==◌, ◌||◌, ◌∙◌, ap, refl, sym, subst, Bool, true, false, if◌then◌else◌, List, [], ◌∷◌, length, take, get_or, map, slice_get, slice_set, Option, Some, Result, Ok, arith}
use Rattle.std.specs.List.{IsDistinct, list_any, position_or_len}
use Rattle.step_results.proofs.PlaceLemmas.{place-found}
use Rattle.std.proofs.lemmas.Bool.{eqb-true, false≢true, lt-ltb, or_from}
use Rattle.std.proofs.lemmas.List.{take_all}
use Rattle.std.proofs.lemmas.List.Folds.{list_any_more}
use Rattle.std.proofs.lemmas.Option.{get_or_from_slice_get, same_Some, slice_get-get_or}
use Rattle.agent_rules.specs.Good.{IsTable}
use Rattle.agent_rules.specs.declared.power_up.TheConstants.{MULTICAST_TABLE}
use Rattle.agent_rules.proofs.CarriedLemmas.{encoded_is_read}
use Rattle.agent_rules.proofs.TableLemmas.{block_differs}
use Rattle.attr_tables.specs.Blocks.{block_of, has_block, with_block, word_bytes}
use Rattle.attr_tables.specs.declared.smp_attribute.SmpAttribute.TheVariants.{MulticastForwardingTable}
use Rattle.step_results.proofs.ElementLemmas.{get_written}
use Rattle.step_results.proofs.ListLemmas.{all_have}
use Rattle.smp_wire.specs.FabricState.{FabricState}
use Rattle.smp_wire.specs.Good.{IsGood}
use Rattle.sweep.specs.declared.graph.GraphSwitch.{GraphSwitch}
use Rattle.switch_model.specs.Agent.{get as switch_gives, set as switch_set, is_mask_modifier, mask_block, mask_position}
use Rattle.switch_model.specs.SwitchState.{SwitchState}
use Rattle.table_push.specs.Fault.{compared}
use Rattle.table_push.specs.Masks.{LiesInTable, masks_before, masks_pushed, set_range, slice_to, wanted_range, with_masks, with_range}
use Rattle.table_push.specs.Nodes.{on_switch, with_switches}
use Rattle.table_push.specs.Pushes.{LeadsToSwitch, Leaves, Stands}
use Rattle.table_push.specs.declared.fault.PushFault.{PushFault}
use Rattle.table_push.proofs.BlockLemmas.{block_back}
use Rattle.table_push.proofs.GuidLemmas.{no_place, place_is}
use Rattle.table_push.proofs.LeadLemmas.{SetsAt, begins_as, ends_as, goes_on, good_switch, leads_on, switch_gives_then, switch_takes, switch_there}
use Rattle.table_push.proofs.LinearLemmas.{keeps_on, on_none, on_twice}
use Rattle.table_push.proofs.NodeLemmas.{both_written, none_written, same_written}
use Rattle.updn_routes.specs.Subnet.{RoutesState, place_of}

-- ---- one block of a position
abbrev block_written : (position partition : ℕ) → List ℕ → SwitchState → SwitchState
block_written position partition words held =
    record held { masks = slice_set held.masks position (with_block 32 partition words (get_or held.masks position [])) }

-- the modifier of a position and a block
record Names (modifier position partition : ℕ) : Type 0 where
  clear : is_mask_modifier modifier ≡ true
  position_is : mask_position modifier ≡ position
  block_is : mask_block modifier ≡ partition

names : (position partition : ℕ) → position < 3 → LiesInTable partition → Names (position * 268435456 + partition) position partition
names position partition few below =
    let middle : (position * 268435456 + partition) / 512 % 524288 ≡ 0 = omega (arith, few, below) in
    record {
      clear = rw middle refl;
      position_is = omega (arith, below);
      block_is = omega (arith, below);
    }

sets_block : (held : SwitchState) (modifier position partition : ℕ) (words mine : List ℕ) → Names modifier position partition
    → slice_get held.masks position ≡ Some mine → has_block 32 partition mine ≡ true → IsTable 32 65536 words
    → switch_set held MulticastForwardingTable modifier (word_bytes words) ≡ Ok (block_written position partition words held)
unfolding switch_set
sets_block held modifier position partition words mine named there has is =
    rw (named.clear, named.position_is, named.block_is, there, has, encoded_is_read.words words is, get_or_from_slice_get held.masks position mine [] there) refl

gives_block : (held : SwitchState) (port modifier position partition : ℕ) (words mine : List ℕ) → Names modifier position partition
    → slice_get held.masks position ≡ Some mine → has_block 32 partition mine ≡ true → block_of 32 partition mine ≡ words
    → switch_gives port held MulticastForwardingTable modifier ≡ Ok (word_bytes words)
unfolding switch_gives
gives_block held port modifier position partition words mine named there has same =
    rw (named.clear, named.position_is, named.block_is, there, has, same) refl

compares : (bytes : List ℕ) → compared MulticastForwardingTable bytes bytes ≡ bytes
unfolding compared
compares bytes = refl

-- the blocks of a position
pub has_it : (block : ℕ) (table : List ℕ) → LiesInTable block → length table ≡ MULTICAST_TABLE → has_block 32 block table ≡ true
has_it block table below long = rw long (lt-ltb block (MULTICAST_TABLE / 32) (omega (arith, below)))

block_leaves : (fabric : FabricState) (stood left : Option FabricState) (result : Result (Unit {0}) PushFault) (path : List ℕ) (guid position partition : ℕ) (words : List ℕ)
    → position < 3 → LiesInTable partition → IsTable 32 65536 words → stood ≡ Some fabric → IsGood fabric → LeadsToSwitch fabric path guid
    → SetsAt stood left result path MulticastForwardingTable (position * 268435456 + partition) (word_bytes words)
    → Leaves result left fabric (with_switches (on_switch guid (block_written position partition words)) fabric)
block_leaves fabric stood left result path guid position partition words few below is stands good leads sets =
    let here = switch_there fabric path guid leads in
    let switch = good_switch fabric path guid good here in
    let within : position < length here.held.masks = omega (arith, switch.positions, few) in
    let mine = get_or here.held.masks position [] in
    let there : slice_get here.held.masks position ≡ Some mine = slice_get-get_or here.held.masks position [] within in
    let long : length mine ≡ MULTICAST_TABLE = (all_have (IsTable MULTICAST_TABLE 65536) here.held.masks position mine switch.masks there).count in
    let has = has_it partition mine below long in
    let differs = block_differs 32 partition words mine (omega arith) is.count has in
    let next = with_block 32 partition words mine in
    let then_has : has_block 32 partition next ≡ true = has_it partition next below (differs.same_length ∙ long) in
    let named = names position partition few below in
    let modifier = position * 268435456 + partition in
    sets fabric stands (with_switches (on_switch guid (block_written position partition words)) fabric) good
    (switch_takes fabric path guid (block_written position partition words) MulticastForwardingTable modifier (word_bytes words) good here
    (sets_block here.held modifier position partition words mine named there has is))
    (λ same. record {
      bytes = word_bytes words;
      given = switch_gives_then fabric path guid (block_written position partition words) MulticastForwardingTable modifier (word_bytes words) good here
          (gives_block (block_written position partition words here.held) here.at.port modifier position partition words next named
          (get_written here.held.masks position next mine there) then_has
          (block_back 32 partition words mine (omega arith) is.count has)) same;
      same = compares (word_bytes words);
    })

-- ---- one MLID range

pub slice_begins : (stood : Option FabricState) (fabric : FabricState) (guid partition : ℕ) (blocks : List (List ℕ)) → stood ≡ Some fabric → IsGood fabric
    → Stands stood fabric (with_switches (on_switch guid (slice_to 0 partition blocks)) fabric)
slice_begins stood fabric guid partition blocks stands good =
    begins_as stood fabric (with_switches (on_switch guid (slice_to 0 partition blocks)) fabric) stands good
    (none_written (on_switch guid (slice_to 0 partition blocks)) fabric (on_none guid (slice_to 0 partition blocks) (λ held. refl)))

-- one position more
position_more : (partition k : ℕ) (blocks masks : List (List ℕ)) (block : List ℕ) → slice_get blocks k ≡ Some block
    → slice_set (with_range partition (take k blocks) masks) k (with_block 32 partition block (get_or (with_range partition (take k blocks) masks) k []))
    ≡ with_range partition (take (suc k) blocks) masks
position_more partition k [] masks block there = absurd (cc)
position_more partition zero (one ∷ blocks) [] block there = refl
position_more partition zero (one ∷ blocks) (words ∷ masks) block there =
    ap (λ (some : List ℕ). with_block 32 partition some words ∷ masks) (sym (same_Some one block there))
position_more partition (suc k) (one ∷ blocks) [] block there = refl
position_more partition (suc k) (one ∷ blocks) (words ∷ masks) block there =
    ap (λ (rest : List (List ℕ)). with_block 32 partition one words ∷ rest) (position_more partition k blocks masks block there)

pub mlid_range_more : (stood left : Option FabricState) (result : Result (Unit {0}) PushFault) (fabric : FabricState) (path : List ℕ) (guid position partition : ℕ)
    (blocks : List (List ℕ)) (words bytes : List ℕ) → position < 3 → LiesInTable partition → slice_get blocks position ≡ Some words → IsTable 32 65536 words
    → bytes ≡ word_bytes words → LeadsToSwitch fabric path guid
    → Stands stood fabric (with_switches (on_switch guid (slice_to position partition blocks)) fabric)
    → SetsAt stood left result path MulticastForwardingTable (position * 268435456 + partition) bytes
    → Leaves result left fabric (with_switches (on_switch guid (slice_to (position + 1) partition blocks)) fabric)
mlid_range_more stood left result fabric path guid position partition blocks words bytes few below there is same leads stands sets =
    let now = with_switches (on_switch guid (slice_to position partition blocks)) fabric in
    let leaves = block_leaves now stood left result path guid position partition words few below is stands.is stands.good (leads_on fabric now path guid stands.shape leads)
    (subst (SetsAt stood left result path MulticastForwardingTable (position * 268435456 + partition)) same sets) in
    let up : suc position ≡ position + 1 = omega arith in
    let joined : (held : SwitchState) → block_written position partition words (slice_to position partition blocks held) ≡ slice_to (position + 1) partition blocks held =
    λ held. ap (λ (masks : List (List ℕ)). record held { masks = masks })
    (position_more partition position blocks held.masks words there
    ∙ ap (λ (n : ℕ). with_range partition (take n blocks) held.masks) up) in
    goes_on result stood left fabric now _ _ stands leaves
    (both_written (on_switch guid (block_written position partition words)) (on_switch guid (slice_to position partition blocks)) (on_switch guid (slice_to (position + 1) partition blocks)) fabric
    (keeps_on guid (slice_to position partition blocks) (λ held. refl))
    (on_twice guid (block_written position partition words) (slice_to position partition blocks) (slice_to (position + 1) partition blocks) joined))

pub slice_ends : (stood : Option FabricState) (fabric : FabricState) (guid count partition : ℕ) (blocks : List (List ℕ)) → length blocks ≤ count
    → Stands stood fabric (with_switches (on_switch guid (slice_to count partition blocks)) fabric)
    → Leaves {X = Unit {0}} (Ok tt) stood fabric (with_switches (on_switch guid (set_range partition blocks)) fabric)
slice_ends stood fabric guid count partition blocks all stands =
    ends_as stood fabric _ _ stands
    (ap (λ (some : List (List ℕ)). with_switches (on_switch guid (set_range partition some)) fabric) (take_all count blocks all))

-- ---- all switches
pub push_begins : (stood : Option FabricState) (fabric : FabricState) (routes : RoutesState) (partition : ℕ) (receives : ℕ → ℕ → Bool) → stood ≡ Some fabric → IsGood fabric
    → Stands stood fabric (with_switches (masks_before routes partition receives 0) fabric)
push_begins stood fabric routes partition receives stands good =
    begins_as stood fabric (with_switches (masks_before routes partition receives 0) fabric) stands good
    (none_written (masks_before routes partition receives 0) fabric (λ guid held. refl))

pub keeps_before : (routes : RoutesState) (partition : ℕ) (receives : ℕ → ℕ → Bool) (count guid : ℕ) (held : SwitchState)
    → (masks_before routes partition receives count guid held).node_guid ≡ held.node_guid
keeps_before routes partition receives count guid held = by (list_any (λ switch. switch.guid == guid) (take count routes.graph.switches))
  where
    by : (b : Bool) → (if b then with_masks routes partition receives guid held else held).node_guid ≡ held.node_guid
    by true = refl
    by false = refl

pub its_masks : (routes : RoutesState) (partition : ℕ) (receives : ℕ → ℕ → Bool) (place guid : ℕ) (held : SwitchState) → place_of routes.graph.switches guid ≡ Some place
    → with_masks routes partition receives guid held ≡ set_range partition (wanted_range routes partition receives place) held
its_masks routes partition receives place guid held is = rw is refl

-- none before the first that passes does
place_now : {X : Type 0} (p : X → Bool) (x : X) (xs : List X) → p x ≡ true → position_or_len p (x ∷ xs) ≡ 0
place_now p x xs is = rw is refl

place_later : {X : Type 0} (p : X → Bool) (x : X) (xs : List X) → p x ≡ false → position_or_len p (x ∷ xs) ≡ suc (position_or_len p xs)
place_later p x xs is = rw is (omega arith)

none_before : {X : Type 0} (p : X → Bool) (xs : List X) → list_any p (take (position_or_len p xs) xs) ≡ false
none_before p [] = refl
none_before p (x ∷ xs) = by (p x) refl (none_before p xs)
  where
    by : (b : Bool) → p x ≡ b → list_any p (take (position_or_len p xs) xs) ≡ false → list_any p (take (position_or_len p (x ∷ xs)) (x ∷ xs)) ≡ false
    by true is rest = subst (λ (k : ℕ). list_any p (take k (x ∷ xs)) ≡ false) (sym (place_now p x xs is)) refl
    by false is rest = subst (λ (k : ℕ). list_any p (take k (x ∷ xs)) ≡ false) (sym (place_later p x xs is)) (or_from (p x) _ is rest)

pub place_first : (switches : List GraphSwitch) (guid place : ℕ) → place_of switches guid ≡ Some place
    → list_any (λ switch. switch.guid == guid) (take place switches) ≡ false
place_first switches guid place is =
    subst (λ (k : ℕ). list_any (λ switch. switch.guid == guid) (take k switches) ≡ false)
    (sym (place-found (λ (switch : GraphSwitch). switch.guid == guid) switches place is)) (none_before (λ switch. switch.guid == guid) switches)

one_more : (routes : RoutesState) (partition : ℕ) (receives : ℕ → ℕ → Bool) (place guid : ℕ) (switch : GraphSwitch) (held : SwitchState) (a b : Bool)
    → ((switch.guid == guid) ≡ true → place_of routes.graph.switches guid ≡ Some place) → (switch.guid == guid) ≡ b
    → list_any (λ one. one.guid == guid) (take place routes.graph.switches) ≡ a
    → (if b then set_range partition (wanted_range routes partition receives place) (if a then with_masks routes partition receives guid held else held)
    else (if a then with_masks routes partition receives guid held else held))
    ≡ (if (a || b) then with_masks routes partition receives guid held else held)
one_more routes partition receives place guid switch held true true own is before =
    absurd (false≢true (sym (place_first routes.graph.switches guid place (own is)) ∙ before))
one_more routes partition receives place guid switch held false true own is before = sym (its_masks routes partition receives place guid held (own is))
one_more routes partition receives place guid switch held true false own is before = refl
one_more routes partition receives place guid switch held false false own is before = refl

before_more : (routes : RoutesState) (partition : ℕ) (receives : ℕ → ℕ → Bool) (place : ℕ) (switch : GraphSwitch) → place < length routes.graph.switches
    → slice_get routes.graph.switches place ≡ Some switch → IsDistinct (λ a b. a == b) (map (λ one. one.guid) routes.graph.switches)
    → (guid : ℕ) (held : SwitchState)
    → on_switch switch.guid (set_range partition (wanted_range routes partition receives place)) guid (masks_before routes partition receives place guid held)
    ≡ masks_before routes partition receives (place + 1) guid held
before_more routes partition receives place switch within there own guid held =
    let switches = routes.graph.switches in
    let grown : list_any (λ one. one.guid == guid) (take (place + 1) switches)
    ≡ (list_any (λ one. one.guid == guid) (take place switches) || (switch.guid == guid)) =
    list_any_more (λ one. one.guid == guid) switches place switch within
    ∙ ap (λ (one : GraphSwitch). list_any (λ other. other.guid == guid) (take place switches) || (one.guid == guid)) (get_or_from_slice_get switches place switch switch there) in
    one_more routes partition receives place guid switch held (list_any (λ one. one.guid == guid) (take place switches)) (switch.guid == guid)
    (λ same. ap (place_of switches) (sym (eqb-true switch.guid guid same)) ∙ place_is switches place switch own there) refl refl
    ∙ ap (λ (some : Bool). if some then with_masks routes partition receives guid held else held) (sym grown)

-- the switch at one place more is written
pub push_on : (stood left : Option FabricState) (result : Result (Unit {0}) PushFault) (fabric : FabricState) (routes : RoutesState) (partition : ℕ) (receives : ℕ → ℕ → Bool)
    (place : ℕ) (switch : GraphSwitch) (blocks : List (List ℕ)) → place < length routes.graph.switches → slice_get routes.graph.switches place ≡ Some switch
    → IsDistinct (λ a b. a == b) (map (λ one. one.guid) routes.graph.switches) → blocks ≡ wanted_range routes partition receives place
    → Stands stood fabric (with_switches (masks_before routes partition receives place) fabric)
    → Leaves result left (with_switches (masks_before routes partition receives place) fabric)
    (with_switches (on_switch switch.guid (set_range partition blocks)) (with_switches (masks_before routes partition receives place) fabric))
    → Leaves result left fabric (with_switches (masks_before routes partition receives (place + 1)) fabric)
push_on stood left result fabric routes partition receives place switch blocks within there own is stands leaves =
    let now = with_switches (masks_before routes partition receives place) fabric in
    goes_on result stood left fabric now _ _ stands leaves
    (ap (λ (some : List (List ℕ)). with_switches (on_switch switch.guid (set_range partition some)) now) is
    ∙ both_written (on_switch switch.guid (set_range partition (wanted_range routes partition receives place))) (masks_before routes partition receives place)
    (masks_before routes partition receives (place + 1)) fabric (keeps_before routes partition receives place)
    (before_more routes partition receives place switch within there own))

pub push_more : (stood left : Option FabricState) (result : Result (Unit {0}) PushFault) (fabric : FabricState) (routes : RoutesState) (partition : ℕ) (receives : ℕ → ℕ → Bool)
    (place : ℕ) (switch : GraphSwitch) (blocks : List (List ℕ)) → place < length routes.graph.switches → slice_get routes.graph.switches place ≡ Some switch
    → IsDistinct (λ a b. a == b) (map (λ one. one.guid) routes.graph.switches) → blocks ≡ wanted_range routes partition receives place
    → LeadsToSwitch fabric switch.path switch.guid → Stands stood fabric (with_switches (masks_before routes partition receives place) fabric)
    → ((x : FabricState) → stood ≡ Some x → (guid : ℕ) → IsGood x → LeadsToSwitch x switch.path guid
    → Leaves result left x (with_switches (on_switch guid (set_range partition blocks)) x))
    → Leaves result left fabric (with_switches (masks_before routes partition receives (place + 1)) fabric)
push_more stood left result fabric routes partition receives place switch blocks within there own is leads stands sets =
    let now = with_switches (masks_before routes partition receives place) fabric in
    push_on stood left result fabric routes partition receives place switch blocks within there own is stands
    (sets now stands.is switch.guid stands.good (leads_on fabric now switch.path switch.guid stands.shape leads))

all_before : (routes : RoutesState) (partition : ℕ) (receives : ℕ → ℕ → Bool) (guid : ℕ) (held : SwitchState) (b : Bool)
    → list_any (λ switch. switch.guid == guid) routes.graph.switches ≡ b
    → (if b then with_masks routes partition receives guid held else held) ≡ with_masks routes partition receives guid held
all_before routes partition receives guid held true is = refl
all_before routes partition receives guid held false is = rw (no_place routes.graph.switches guid is) refl

pub push_ends : (stood : Option FabricState) (fabric : FabricState) (routes : RoutesState) (partition : ℕ) (receives : ℕ → ℕ → Bool) (count : ℕ)
    → length routes.graph.switches ≤ count → Stands stood fabric (with_switches (masks_before routes partition receives count) fabric)
    → Leaves {X = Unit {0}} (Ok tt) stood fabric (masks_pushed routes partition receives fabric)
push_ends stood fabric routes partition receives count all stands =
    ends_as stood fabric (with_switches (masks_before routes partition receives count) fabric) _ stands
    (same_written (masks_before routes partition receives count) (with_masks routes partition receives) fabric
    (λ guid held. rw (take_all count routes.graph.switches all)
    (all_before routes partition receives guid held (list_any (λ switch. switch.guid == guid) routes.graph.switches) refl)))
