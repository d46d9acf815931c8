-- Masks of multicast LIDs, bit by bit, and their MLID ranges.
use Rattle.std.proofs.Common.{ℕ, zero, suc, ◌≡◌, ◌+◌, ◌-◌, ◌*◌, ◌/◌, ◌%◌, ◌^◌, ◌<◌, ◌≤◌, ◌==◌, ◌&&◌, ◌∙◌, ap, refl, sym, subst, Bool, true, false, if◌then◌else◌, List, [], ◌∷◌, ◌++◌, length, take, drop, map, nat_le, nat_lt, slice_get, Option, Some, None, option_map, arith}
use Rattle.std.specs.Int.{bit_at}
use Rattle.std.specs.List.{list_any, range_with_len}
use Rattle.std.specs.Option.{option_map_or}
use Rattle.std.proofs.Math.Nat.{pow-succ', zero-add}
use Rattle.std.proofs.lemmas.Bool.Decides.{nat_tests}
use Rattle.std.proofs.lemmas.List.{drop-drop, take-append-drop}
use Rattle.std.proofs.lemmas.Nat.Bits.{bit_at-suc, bit_at_lowest}
use Rattle.std.proofs.lemmas.Option.{slice_get-map}
use Rattle.agent_rules.specs.declared.power_up.TheConstants.{MULTICAST_TABLE}
use Rattle.attr_tables.specs.Blocks.{block_of, with_block}
use Rattle.fabric_parts.specs.declared.lid.TheConstants.{FIRST_MULTICAST_LID}
use Rattle.step_results.proofs.ListLemmas.{range_at}
use Rattle.smp_wire.specs.declared.node.Node.{Node}
use Rattle.smp_wire.specs.declared.node.Node.TheVariants.{Switch, Adapter}
use Rattle.switch_model.specs.Multicast.{is_in_masks, mask_of}
use Rattle.switch_model.specs.SwitchState.{SwitchState}
use Rattle.table_push.specs.Laws.{MasksAreRead, MlidRangesAreTheirOwn, MlidRangesMakeTheWhole}
use Rattle.table_push.specs.Masks.{bits_where, is_hop_to, is_in_mask, is_in_mlid_range, mask_of_position, mask_word, masks_of, with_masks, with_range, wanted_range}
use Rattle.table_push.specs.Nodes.{switch_by}
use Rattle.updn_routes.specs.Subnet.{RoutesState, place_of}

-- ---- bits
low_bit : (b : Bool) (m : ℕ) → (((if b then 1 else 0) + 2 * m) % 2 == 1) ≡ b
low_bit true m =
    let odd : (1 + 2 * m) % 2 ≡ 1 = omega arith in
    rw odd refl
low_bit false m =
    let even : (0 + 2 * m) % 2 ≡ 0 = omega arith in
    rw even refl

rest_bits : (b : Bool) (m : ℕ) → ((if b then 1 else 0) + 2 * m) / 2 ≡ m
rest_bits true m = omega arith
rest_bits false m = omega arith

pub bit_where : (count : ℕ) (is_set : ℕ → Bool) (k : ℕ) → k < count → (bit_at (bits_where count is_set) k == 1) ≡ is_set k
unfolding bits_where
bit_where zero is_set k within = absurd (omega (arith, within))
bit_where (suc count) is_set zero within =
    ap (λ (bit : ℕ). bit == 1) (bit_at_lowest (bits_where (suc count) is_set)) ∙ low_bit (is_set 0) (bits_where count (λ k. is_set (suc k)))
bit_where (suc count) is_set (suc k) within =
    ap (λ (bit : ℕ). bit == 1) (bit_at-suc (bits_where (suc count) is_set) k
    ∙ ap (λ (n : ℕ). bit_at n k) (rest_bits (is_set 0) (bits_where count (λ k. is_set (suc k)))))
    ∙ bit_where count (λ k. is_set (suc k)) k (omega (arith, within))

low_below : (b : Bool) (m limit : ℕ) → m < limit → (if b then 1 else 0) + 2 * m < 2 * limit
low_below true m limit below = omega (arith, below)
low_below false m limit below = omega (arith, below)

pub bits_below : (count : ℕ) (is_set : ℕ → Bool) → bits_where count is_set < 2 ^ count
unfolding bits_where
bits_below zero is_set = omega arith
bits_below (suc count) is_set =
    subst (λ (limit : ℕ). bits_where (suc count) is_set < limit) (sym (pow-succ' 2 count))
    (low_below (is_set 0) (bits_where count (λ k. is_set (suc k))) (2 ^ count) (bits_below count (λ k. is_set (suc k))))

-- ---- the masks are read
pub at_range : {X : Type 0} (f : ℕ → X) (n k : ℕ) → k < n → slice_get (map f (range_with_len 0 n)) k ≡ Some (f k)
at_range f n k within =
    slice_get-map f (range_with_len 0 n) k ∙ ap (option_map f) (range_at 0 n k within ∙ ap (λ (i : ℕ). Some i) (zero-add k))

reads : (routes : RoutesState) (receives : ℕ → ℕ → Bool) (place position i k mlid number : ℕ) → k < 16 → FIRST_MULTICAST_LID + i ≡ mlid → 16 * position + k ≡ number
    → (bit_at (mask_word routes receives place position (FIRST_MULTICAST_LID + i)) k == 1) ≡ is_in_mask routes receives place mlid number
reads routes receives place position i k mlid number within is at =
    bit_where 16 (λ k. is_in_mask routes receives place (FIRST_MULTICAST_LID + i) (16 * position + k)) k within
    ∙ ap (λ (m : ℕ). is_in_mask routes receives place m (16 * position + k)) is
    ∙ ap (λ (n : ℕ). is_in_mask routes receives place mlid n) at

there_is : (mlid i : ℕ) (mask : ℕ) (words : List ℕ) (masks : List (List ℕ)) (number position : ℕ) → (b : Bool)
    → number / 16 ≡ position → slice_get masks position ≡ Some words → mask_of mlid words ≡ Some mask → (bit_at mask (number % 16) == 1) ≡ b
    → is_in_masks masks mlid number ≡ b
there_is mlid i mask words masks number position b at there some is = rw (at, there, some) is

mask_there : (routes : RoutesState) (receives : ℕ → ℕ → Bool) (place position mlid : ℕ) → (nat_le 0xc000 mlid && nat_lt mlid 0xffff) ≡ true
    → mlid - FIRST_MULTICAST_LID < MULTICAST_TABLE
    → mask_of mlid (mask_of_position routes receives place position) ≡ Some (mask_word routes receives place position (FIRST_MULTICAST_LID + (mlid - FIRST_MULTICAST_LID)))
mask_there routes receives place position mlid multi within =
    opened (nat_le 0xc000 mlid && nat_lt mlid 0xffff) (mask_of_position routes receives place position) (mlid - FIRST_MULTICAST_LID) _ multi
    (at_range (λ i. mask_word routes receives place position (FIRST_MULTICAST_LID + i)) MULTICAST_TABLE (mlid - FIRST_MULTICAST_LID) within)
  where
    opened : (multicast : Bool) (words : List ℕ) (k mask : ℕ) → multicast ≡ true → slice_get words k ≡ Some mask
        → (if multicast then slice_get words k else None) ≡ Some mask
    opened true words k mask is there = there
    opened false words k mask is there = cc

from_first : (mlid : ℕ) → (nat_le 0xc000 mlid && nat_lt mlid 0xffff) ≡ true → 49152 ≤ mlid
from_first mlid multi = grind (arith, nat_tests)

pub masks_are_read : MasksAreRead
masks_are_read routes receives place mlid number multi within below =
    let low : 49152 ≤ mlid = from_first mlid multi in
    let position = number / 16 in
    let few : position < 3 = omega (arith, below) in
    let i = mlid - FIRST_MULTICAST_LID in
    there_is mlid i _ (mask_of_position routes receives place position) (masks_of routes receives place) number position
    (is_in_mask routes receives place mlid number) refl (at_range (mask_of_position routes receives place) 3 position few)
    (mask_there routes receives place position mlid multi (omega (arith, within, low)))
    (reads routes receives place position i (number % 16) mlid number (omega arith) (omega (arith, low)) (omega arith))

-- ---- MLID ranges
pub window_alike : {X : Type 0} (f g : ℕ → X) (a n k m : ℕ) → ((i : ℕ) → a + k ≤ i → i < a + k + m → f i ≡ g i)
    → take m (drop k (map f (range_with_len a n))) ≡ take m (drop k (map g (range_with_len a n)))
window_alike f g a zero zero m each = refl
window_alike f g a zero (suc k) m each = refl
window_alike f g a (suc n) zero zero each = refl
window_alike f g a (suc n) zero (suc m) each =
    let head = each a (omega arith) (omega arith) in
    let tail = window_alike f g (a + 1) n zero m (λ i above below. each i (omega (arith, above)) (omega (arith, below))) in
    λ place. head place ∷ tail place
window_alike f g a (suc n) (suc k) m each =
    window_alike f g (a + 1) n k m (λ i above below. each i (omega (arith, above)) (omega (arith, below)))

rest_alike : {X : Type 0} (f g : ℕ → X) (a n k : ℕ) → ((i : ℕ) → a + k ≤ i → f i ≡ g i)
    → drop k (map f (range_with_len a n)) ≡ drop k (map g (range_with_len a n))
rest_alike f g a zero zero each = refl
rest_alike f g a zero (suc k) each = refl
rest_alike f g a (suc n) zero each =
    let head = each a (omega arith) in
    let tail = rest_alike f g (a + 1) n zero (λ i above. each i (omega (arith, above))) in
    λ place. head place ∷ tail place
rest_alike f g a (suc n) (suc k) each = rest_alike f g (a + 1) n k (λ i above. each i (omega (arith, above)))

-- a table with the block of another, which is the same outside, is that other
whole_again : (block : ℕ) (old new : List ℕ) → take (32 * block) old ≡ take (32 * block) new → drop (32 * block + 32) old ≡ drop (32 * block + 32) new
    → with_block 32 block (block_of 32 block new) old ≡ new
unfolding block_of with_block
whole_again block old new front back =
    let first = 32 * block in
    ap (λ (some : List ℕ). some ++ (take 32 (drop first new) ++ drop (first + 32) old)) front
    ∙ ap (λ (some : List ℕ). take first new ++ (take 32 (drop first new) ++ some)) (back ∙ sym (drop-drop 32 first new))
    ∙ ap (λ (some : List ℕ). take first new ++ some) (take-append-drop 32 (drop first new))
    ∙ take-append-drop first new

block_alike : (block : ℕ) (f g : ℕ → ℕ) (n : ℕ) → ((i : ℕ) → 32 * block ≤ i → i < 32 * block + 32 → f i ≡ g i)
    → block_of 32 block (map f (range_with_len 0 n)) ≡ block_of 32 block (map g (range_with_len 0 n))
unfolding block_of
block_alike block f g n each =
    window_alike f g 0 n (32 * block) 32 (λ i above below. each i (omega (arith, above)) (omega (arith, below)))

block_put : (block : ℕ) (f g : ℕ → ℕ) (n : ℕ) → ((i : ℕ) → i < 32 * block → f i ≡ g i) → ((i : ℕ) → 32 * block + 32 ≤ i → f i ≡ g i)
    → with_block 32 block (block_of 32 block (map g (range_with_len 0 n))) (map f (range_with_len 0 n)) ≡ map g (range_with_len 0 n)
block_put block f g n before behind =
    whole_again block (map f (range_with_len 0 n)) (map g (range_with_len 0 n))
    (window_alike f g 0 n 0 (32 * block) (λ i above below. before i (omega (arith, below))))
    (rest_alike f g 0 n (32 * block + 32) (λ i above. behind i (omega (arith, above))))

-- a mask is that of another test which agrees on its multicast LID
word_alike : (routes : RoutesState) (one other : ℕ → ℕ → Bool) (place position mlid : ℕ) → ((lid : ℕ) → one mlid lid ≡ other mlid lid)
    → mask_word routes one place position mlid ≡ mask_word routes other place position mlid
unfolding is_in_mask
word_alike routes one other place position mlid agree = λ i. bits_where 16 (λ k. list_any (λ lid. agree lid i && is_hop_to routes place (16 * position + k) lid)
    (range_with_len 1 (length routes.lids)))

inside : (partition i : ℕ) → 32 * partition ≤ i → i < 32 * partition + 32 → is_in_mlid_range partition (FIRST_MULTICAST_LID + i) ≡ true
inside partition i above below = grind (arith, nat_tests)

before_it : (partition i : ℕ) → i < 32 * partition → is_in_mlid_range partition (FIRST_MULTICAST_LID + i) ≡ false
before_it partition i below = grind (arith, nat_tests)

behind_it : (partition i : ℕ) → 32 * partition + 32 ≤ i → is_in_mlid_range partition (FIRST_MULTICAST_LID + i) ≡ false
behind_it partition i above = grind (arith, nat_tests)

pub mlid_ranges_are_their_own : MlidRangesAreTheirOwn
mlid_ranges_are_their_own routes partition place one other agree =
    let each : (position : ℕ) → block_of 32 partition (mask_of_position routes one place position) ≡ block_of 32 partition (mask_of_position routes other place position) =
    λ position. block_alike partition (λ i. mask_word routes one place position (FIRST_MULTICAST_LID + i)) (λ i. mask_word routes other place position (FIRST_MULTICAST_LID + i)) MULTICAST_TABLE
    (λ i above below. word_alike routes one other place position (FIRST_MULTICAST_LID + i) (λ lid. agree (FIRST_MULTICAST_LID + i) lid (inside partition i above below))) in
    λ i. each 0 i ∷ each 1 i ∷ each 2 i ∷ []

pub whole_slice : (routes : RoutesState) (partition place : ℕ) (one other : ℕ → ℕ → Bool)
    → ((mlid lid : ℕ) → is_in_mlid_range partition mlid ≡ false → one mlid lid ≡ other mlid lid)
    → with_range partition (wanted_range routes partition other place) (masks_of routes one place) ≡ masks_of routes other place
whole_slice routes partition place one other agree =
    let each : (position : ℕ) → with_block 32 partition (block_of 32 partition (mask_of_position routes other place position)) (mask_of_position routes one place position)
    ≡ mask_of_position routes other place position =
    λ position. block_put partition (λ i. mask_word routes one place position (FIRST_MULTICAST_LID + i)) (λ i. mask_word routes other place position (FIRST_MULTICAST_LID + i)) MULTICAST_TABLE
    (λ i below. word_alike routes one other place position (FIRST_MULTICAST_LID + i) (λ lid. agree (FIRST_MULTICAST_LID + i) lid (before_it partition i below)))
    (λ i above. word_alike routes one other place position (FIRST_MULTICAST_LID + i) (λ lid. agree (FIRST_MULTICAST_LID + i) lid (behind_it partition i above))) in
    λ i. each 0 i ∷ each 1 i ∷ each 2 i ∷ []

-- what stood where a switch stands then
pub record WasSwitch (change : ℕ → SwitchState → SwitchState) (nodes : List Node) (node : ℕ) (held : SwitchState) : Type 0 where
  pub was : SwitchState
  pub there : slice_get nodes node ≡ Some (Switch was)
  pub is : held ≡ change was.node_guid was

pub was_switch : (change : ℕ → SwitchState → SwitchState) (nodes : List Node) (node : ℕ) (held : SwitchState)
    → slice_get (map (switch_by change) nodes) node ≡ Some (Switch held) → WasSwitch change nodes node held
was_switch change nodes node held there = by (slice_get nodes node) refl
  where
    by : (found : Option Node) → slice_get nodes node ≡ found → WasSwitch change nodes node held
    by None is =
        let gone = sym there ∙ slice_get-map (switch_by change) nodes node ∙ ap (option_map (switch_by change)) is in
        absurd (cc)
    by (Some (Adapter ports)) is =
        let other = sym there ∙ slice_get-map (switch_by change) nodes node ∙ ap (option_map (switch_by change)) is in
        absurd (cc)
    by (Some (Switch was)) is =
        let same = sym there ∙ slice_get-map (switch_by change) nodes node ∙ ap (option_map (switch_by change)) is in
        record { was = was; there = is; is = cc }

pub mlid_ranges_make_the_whole : MlidRangesMakeTheWhole
mlid_ranges_make_the_whole routes partition fabric one other agree has node place held there at =
    let was = was_switch (with_masks routes partition other) fabric.nodes node held there in
    let place_was : place_of routes.graph.switches was.was.node_guid ≡ Some place =
    ap (λ (state : SwitchState). place_of routes.graph.switches state.node_guid) (sym was.is) ∙ at in
    let masks_were = has node place was.was was.there place_was in
    ap (λ (state : SwitchState). state.masks) was.is
    ∙ ap (λ (o : Option ℕ). option_map_or (λ place. with_range partition (wanted_range routes partition other place) was.was.masks) o was.was.masks) place_was
    ∙ ap (with_range partition (wanted_range routes partition other place)) masks_were
    ∙ whole_slice routes partition place one other agree
