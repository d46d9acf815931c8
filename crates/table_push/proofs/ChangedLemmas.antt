-- Blocks that are set only where they differ from those that stand there.
use Rattle.std.proofs.Common.{ℕ, zero, suc, ◌≡◌, ◌+◌, ◌<◌, ◌==◌, ◌++◌, ◌∙◌, ap, refl, sym, subst, Bool, true, false, if◌then◌else◌, List, [], ◌∷◌, filter, length, take, get_or, map, slice_get, Option, Some, Result, Ok, arith, nat_eq}
use Rattle.std.specs.Cmp.Lexicographic.{pointwise}
use Rattle.std.specs.List.{IsDistinct, range_with_len, sum_by}
use Rattle.std.proofs.lemmas.Bool.{eqb-true}
use Rattle.std.proofs.lemmas.Cmp.{nat_list_eq_equiv}
use Rattle.std.proofs.lemmas.List.{map-id}
use Rattle.std.proofs.lemmas.List.FromFn.{sum_by-map-range_with_len_more}
use Rattle.std.proofs.lemmas.Option.{same_Some}
use Rattle.attr_tables.specs.Blocks.{with_block}
use Rattle.step_results.proofs.RangeLemmas.{range_more}
use Rattle.smp_wire.specs.FabricState.{FabricState}
use Rattle.smp_wire.specs.Good.{IsGood}
use Rattle.smp_wire.specs.declared.node.Node.{Node}
use Rattle.smp_wire.specs.declared.node.Node.TheVariants.{Switch, Adapter}
use Rattle.sweep.specs.OfFabric.{IsGraphOf}
use Rattle.sweep.specs.declared.graph.GraphSwitch.{GraphSwitch}
use Rattle.switch_model.specs.SwitchState.{SwitchState}
use Rattle.table_push.specs.Changes.{HasBlocks, HasRange, blocks_changed}
use Rattle.table_push.specs.Masks.{masks_before, set_range, slice_to, wanted_range, with_masks, with_range}
use Rattle.table_push.specs.Nodes.{on_switch, switch_by, with_switches}
use Rattle.table_push.specs.Pushes.{LeadsToSwitch, Leaves, Stands}
use Rattle.table_push.specs.declared.fault.PushFault.{PushFault}
use Rattle.table_push.proofs.GuidLemmas.{place_is}
use Rattle.table_push.proofs.LeadLemmas.{begins_as, graph_leads, leads_on}
use Rattle.table_push.proofs.MlidRangeLemmas.{its_masks, keeps_before, place_first, push_on}
use Rattle.updn_routes.specs.Subnet.{RoutesState, place_of}

-- ---- counts
cons_counts : {X : Type 0} (p : X → Bool) (x : X) (xs : List X) (b : Bool) → p x ≡ b → length (filter p (x ∷ xs)) ≡ (if b then 1 else 0) + length (filter p xs)
cons_counts p x xs true is = rw is (omega arith)
cons_counts p x xs false is = rw is (omega arith)

joined_counts : {X : Type 0} (p : X → Bool) (xs : List X) (last : X) (b : Bool) → p last ≡ b
    → length (filter p (xs ++ last ∷ [])) ≡ length (filter p xs) + (if b then 1 else 0)
joined_counts p [] last true is = rw is refl
joined_counts p [] last false is = rw is refl
joined_counts p (x ∷ xs) last b is =
    let tail = joined_counts p xs last b is in
    let one = cons_counts p x (xs ++ last ∷ []) (p x) refl in
    let two = cons_counts p x xs (p x) refl in
    one ∙ ap (λ (n : ℕ). (if p x then 1 else 0) + n) tail ∙ assoc (if p x then 1 else 0) (length (filter p xs)) (if b then 1 else 0)
    ∙ ap (λ (n : ℕ). n + (if b then 1 else 0)) (sym two)
  where
    assoc : (a b c : ℕ) → a + (b + c) ≡ a + b + c
    assoc a b c = omega arith

pub one_counted : (p : ℕ → Bool) (count place : ℕ) (b : Bool) → p place ≡ b → count ≡ length (filter p (range_with_len 0 place))
    → count + (if b then 1 else 0) ≡ length (filter p (range_with_len 0 (place + 1)))
one_counted p count place b is so_far =
    let up : place + 1 ≡ suc place = omega arith in
    let last : 0 + place ≡ place = omega arith in
    let grown : range_with_len 0 (place + 1) ≡ range_with_len 0 place ++ place ∷ [] =
    ap (range_with_len 0) up ∙ range_more 0 place ∙ ap (λ (k : ℕ). range_with_len 0 place ++ k ∷ []) last in
    ap (λ (n : ℕ). n + (if b then 1 else 0)) so_far
    ∙ sym (ap (λ (xs : List ℕ). length (filter p xs)) grown ∙ joined_counts p (range_with_len 0 place) place b is)

pub more_counted : (f : ℕ → ℕ) (count place more : ℕ) → more ≡ f place → count ≡ sum_by f (range_with_len 0 place)
    → count + more ≡ sum_by f (range_with_len 0 (place + 1))
more_counted f count place more is so_far =
    let step = sum_by-map-range_with_len_more f (λ n. n) 0 place place (omega arith) in
    ap (λ (n : ℕ). n + more) so_far ∙ ap (λ (n : ℕ). sum_by f (range_with_len 0 place) + n) is
    ∙ sym (ap (sum_by f) (sym (map-id (range_with_len 0 (place + 1)))) ∙ step ∙ ap (λ (xs : List ℕ). sum_by f xs + f place) (map-id (range_with_len 0 place)))

-- ---- blocks that stand there
abbrev rest_of : {X : Type 0} → List X → List X
rest_of [] = []
rest_of (x ∷ xs) = xs

-- one position more, which has the block that stands there
range_stays : (partition k : ℕ) (before after masks : List (List ℕ)) (block : List ℕ) → with_range partition before masks ≡ masks
    → slice_get before k ≡ Some block → slice_get after k ≡ Some block
    → with_range partition (take (suc k) after) masks ≡ with_range partition (take k after) masks
range_stays partition k [] after masks block is there later = absurd (cc)
range_stays partition k (b ∷ before) [] masks block is there later = absurd (cc)
range_stays partition zero (b ∷ before) (a ∷ after) [] block is there later = refl
range_stays partition (suc k) (b ∷ before) (a ∷ after) [] block is there later = refl
range_stays partition zero (b ∷ before) (a ∷ after) (words ∷ masks) block is there later =
    let same : a ≡ b = same_Some a block later ∙ sym (same_Some b block there) in
    let head : with_block 32 partition b words ≡ words = ap (λ (all : List (List ℕ)). get_or all 0 words) is in
    ap (λ (one : List ℕ). with_block 32 partition one words ∷ masks) same ∙ ap (λ (one : List ℕ). one ∷ masks) head
range_stays partition (suc k) (b ∷ before) (a ∷ after) (words ∷ masks) block is there later =
    ap (λ (rest : List (List ℕ)). with_block 32 partition a words ∷ rest)
    (range_stays partition k before after masks block (ap rest_of is) there later)

-- ---- nodes that one change leaves as they are
abbrev held_in : SwitchState → Node → SwitchState
held_in other (Switch held) = held
held_in other (Adapter ports) = other

left_is : (f : ℕ → SwitchState → SwitchState) (held : SwitchState) (nodes : List Node) → map (switch_by f) (Switch held ∷ nodes) ≡ Switch held ∷ nodes
    → f held.node_guid held ≡ held
left_is f held nodes is = ap (λ (all : List Node). held_in held (get_or all 0 (Switch held))) is

alike_where : (guid : ℕ) (f g h : SwitchState → SwitchState) → ((held : SwitchState) → f held ≡ held → g held ≡ h held) → (nodes : List Node)
    → map (switch_by (on_switch guid f)) nodes ≡ nodes → map (switch_by (on_switch guid g)) nodes ≡ map (switch_by (on_switch guid h)) nodes
alike_where guid f g h each [] is = refl
alike_where guid f g h each (Adapter ports ∷ nodes) is =
    ap (λ (rest : List Node). Adapter ports ∷ rest) (alike_where guid f g h each nodes (ap rest_of is))
alike_where guid f g h each (Switch held ∷ nodes) is =
    let head = ap (λ (next : SwitchState). Switch next) (by (guid == held.node_guid) (left_is (on_switch guid f) held nodes is)) in
    let tail = alike_where guid f g h each nodes (ap rest_of is) in
    λ place. head place ∷ tail place
  where
    by : (b : Bool) → (if b then f held else held) ≡ held → (if b then g held else held) ≡ (if b then h held else held)
    by true left = each held left
    by false left = refl

pub blocks_stay : (fabric : FabricState) (guid partition k : ℕ) (before after : List (List ℕ)) (block : List ℕ) → HasBlocks guid partition before fabric
    → slice_get before k ≡ Some block → slice_get after k ≡ Some block
    → with_switches (on_switch guid (slice_to k partition after)) fabric ≡ with_switches (on_switch guid (slice_to (k + 1) partition after)) fabric
blocks_stay fabric guid partition k before after block has there later =
    let up : suc k ≡ k + 1 = omega arith in
    let nodes = alike_where guid (set_range partition before) (slice_to (suc k) partition after) (slice_to k partition after)
    (λ held left. ap (λ (masks : List (List ℕ)). record held { masks = masks })
    (range_stays partition k before after held.masks block (ap (λ (one : SwitchState). one.masks) left) there later))
    fabric.nodes (ap (λ (one : FabricState). one.nodes) has) in
    ap (λ (some : List Node). record fabric { nodes = some }) (sym nodes)
    ∙ ap (λ (n : ℕ). with_switches (on_switch guid (slice_to n partition after)) fabric) up

-- ---- switches that have their blocks while those before them are written
module _ (routes : RoutesState) (partition : ℕ) (before after : ℕ → ℕ → Bool) (place : ℕ) (switch : GraphSwitch) (there : slice_get routes.graph.switches place ≡ Some switch) (own : IsDistinct (λ a b. a == b) (map (λ one. one.guid) routes.graph.switches)) where
  abbrev blocks : List (List ℕ)
  blocks = wanted_range routes partition before place

  abbrev written : ℕ → SwitchState → SwitchState
  written = masks_before routes partition after place

  -- no switch before it has its GUID
  not_yet : (guid : ℕ) (held : SwitchState) → (switch.guid == guid) ≡ true → written guid held ≡ held
  not_yet guid held is =
      let placed : place_of routes.graph.switches guid ≡ Some place =
      ap (place_of routes.graph.switches) (sym (eqb-true switch.guid guid is)) ∙ place_is routes.graph.switches place switch own there in
      rw (place_first routes.graph.switches guid place placed) refl

  has_them : (guid : ℕ) (held : SwitchState) → (switch.guid == guid) ≡ true → with_masks routes partition before guid held ≡ held → set_range partition blocks held ≡ held
  has_them guid held is left =
      let placed : place_of routes.graph.switches guid ≡ Some place =
      ap (place_of routes.graph.switches) (sym (eqb-true switch.guid guid is)) ∙ place_is routes.graph.switches place switch own there in
      sym (its_masks routes partition before place guid held placed) ∙ left

  stays : (held : SwitchState) → with_masks routes partition before held.node_guid held ≡ held
      → on_switch switch.guid (set_range partition blocks) (written held.node_guid held).node_guid (written held.node_guid held) ≡ written held.node_guid held
  stays held left =
      ap (λ (guid : ℕ). on_switch switch.guid (set_range partition blocks) guid (written held.node_guid held)) (keeps_before routes partition after place held.node_guid held)
      ∙ by (switch.guid == held.node_guid) refl
    where
      by : (b : Bool) → (switch.guid == held.node_guid) ≡ b
          → (if b then set_range partition blocks (written held.node_guid held) else written held.node_guid held) ≡ written held.node_guid held
      by true is =
          let same = not_yet held.node_guid held is in
          ap (set_range partition blocks) same ∙ has_them held.node_guid held is left ∙ sym same
      by false is = refl

  all_stay : (nodes : List Node) → map (switch_by (with_masks routes partition before)) nodes ≡ nodes
      → map (switch_by (on_switch switch.guid (set_range partition blocks))) (map (switch_by written) nodes) ≡ map (switch_by written) nodes
  all_stay [] is = refl
  all_stay (Adapter ports ∷ nodes) is = ap (λ (rest : List Node). Adapter ports ∷ rest) (all_stay nodes (ap rest_of is))
  all_stay (Switch held ∷ nodes) is =
      let head = ap (λ (next : SwitchState). Switch next) (stays held (left_is (with_masks routes partition before) held nodes is)) in
      let tail = all_stay nodes (ap rest_of is) in
      λ i. head i ∷ tail i

  pub has_blocks : (fabric : FabricState) → HasRange routes partition before fabric → HasBlocks switch.guid partition blocks (with_switches written fabric)
  has_blocks fabric has =
      ap (λ (nodes : List Node). record fabric { nodes = nodes }) (all_stay fabric.nodes (ap (λ (one : FabricState). one.nodes) has))

-- the switch at one place more has its blocks
pub place_more : {X : Type 0} (stood left : Option FabricState) (result : Result X PushFault) (fabric : FabricState) (routes : RoutesState) (partition : ℕ) (before after : ℕ → ℕ → Bool)
    (place : ℕ) (switch : GraphSwitch) (path : List ℕ) (had has : List (List ℕ)) → place < length routes.graph.switches → slice_get routes.graph.switches place ≡ Some switch
    → IsDistinct (λ a b. a == b) (map (λ one. one.guid) routes.graph.switches) → path ≡ switch.path
    → had ≡ wanted_range routes partition before place → has ≡ wanted_range routes partition after place
    → IsGraphOf routes.graph fabric → HasRange routes partition before fabric → Stands stood fabric (with_switches (masks_before routes partition after place) fabric)
    → ((x : FabricState) → stood ≡ Some x → (guid : ℕ) → IsGood x → LeadsToSwitch x path guid → HasBlocks guid partition had x
    → Leaves result left x (with_switches (on_switch guid (set_range partition has)) x))
    → Leaves result left fabric (with_switches (masks_before routes partition after (place + 1)) fabric)
place_more stood left result fabric routes partition before after place switch path had has less there own path_is had_is has_is of slice stands sets =
    let now = with_switches (masks_before routes partition after place) fabric in
    let leads = leads_on fabric now switch.path switch.guid stands.shape (graph_leads fabric routes.graph place switch of there) in
    let at = sets now stands.is switch.guid stands.good (subst (λ (some : List ℕ). LeadsToSwitch now some switch.guid) (sym path_is) leads)
    (subst (λ (blocks : List (List ℕ)). HasBlocks switch.guid partition blocks now) (sym had_is) (has_blocks routes partition before after place switch there own fabric slice)) in
    let on = push_on stood left (Ok tt) fabric routes partition after place switch has less there own has_is stands (record { done = refl; stands = at.stands }) in
    record { done = at.done; stands = on.stands }

-- ---- a switch whose blocks are the same
pub none_changed : (before after : List (List ℕ)) → before ≡ after → blocks_changed before after ≡ 0
none_changed before after same =
    ap (λ (blocks : List (List ℕ)). blocks_changed before blocks) (sym same) ∙ rw (same_text before 0, same_text before 1, same_text before 2) refl
  where
    same_text : (blocks : List (List ℕ)) (position : ℕ) → pointwise nat_eq (get_or blocks position []) (get_or blocks position []) ≡ true
    same_text blocks position = nat_list_eq_equiv.refl (get_or blocks position [])

pub place_stays : (stood : Option FabricState) (fabric : FabricState) (routes : RoutesState) (partition : ℕ) (before after : ℕ → ℕ → Bool) (place : ℕ) (switch : GraphSwitch)
    → place < length routes.graph.switches → slice_get routes.graph.switches place ≡ Some switch → IsDistinct (λ a b. a == b) (map (λ one. one.guid) routes.graph.switches)
    → wanted_range routes partition before place ≡ wanted_range routes partition after place → HasRange routes partition before fabric
    → Stands stood fabric (with_switches (masks_before routes partition after place) fabric)
    → Stands stood fabric (with_switches (masks_before routes partition after (place + 1)) fabric)
place_stays stood fabric routes partition before after place switch less there own same slice stands =
    let now = with_switches (masks_before routes partition after place) fabric in
    let has : HasBlocks switch.guid partition (wanted_range routes partition after place) now =
    subst (λ (blocks : List (List ℕ)). HasBlocks switch.guid partition blocks now) same (has_blocks routes partition before after place switch there own fabric slice) in
    (push_on stood stood (Ok tt) fabric routes partition after place switch (wanted_range routes partition after place) less there own refl stands
    (record { done = refl; stands = begins_as stood now (with_switches (on_switch switch.guid (set_range partition (wanted_range routes partition after place))) now) stands.is stands.good has })).stands
