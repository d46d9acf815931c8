-- The words of an MLID range, from the bits of ports.
use Rattle.std.proofs.Common.{ℕ, zero, suc, ◌≡◌, ◌+◌, ◌*◌, ◌/◌, ◌%◌, ◌^◌, ◌<◌, ◌==◌, ◌∙◌, ap, refl, sym, Bool, List, length, take, drop, get_or, arith}
use Rattle.std.specs.Int.{bit_at}
use Rattle.std.proofs.Math.Nat.{div-div-eq-div-mul, zero-add}
use Rattle.std.proofs.lemmas.Grind.{same_number_lists}
use Rattle.std.proofs.lemmas.List.{get_or-drop, get_or-map, get_or-take, length-map}
use Rattle.std.proofs.lemmas.List.FromFn.{get_or-map-range_with_len, length-map-range_with_len}
use Rattle.std.proofs.lemmas.Nat.{pow-add}
use Rattle.std.proofs.lemmas.Nat.Bits.{bit_at-lt, bit_at_cat_low, same_from_bits_below}
use Rattle.agent_rules.specs.declared.power_up.TheConstants.{MULTICAST_TABLE}
use Rattle.agent_rules.proofs.GivenLemmas.{block_long}
use Rattle.attr_tables.specs.Blocks.{block_of}
use Rattle.fabric_parts.specs.declared.lid.TheConstants.{FIRST_MULTICAST_LID}
use Rattle.table_push.specs.Masks.{LiesInTable, bits_where, is_in_mask, mask_of_position, mask_word}
use Rattle.table_push.specs.MaskSteps.{AreBits, AreRangeBits, word_at, words_at}
use Rattle.table_push.proofs.MaskLemmas.{bit_where, bits_below}
use Rattle.table_push.proofs.MlidRangeLemmas.{has_it}
use Rattle.updn_routes.specs.Subnet.{RoutesState}

same_bit : (a b : ℕ) → a < 2 → b < 2 → (a == 1) ≡ (b == 1) → a ≡ b
same_bit zero zero low other same = refl
same_bit (suc zero) (suc zero) low other same = refl
same_bit zero (suc zero) low other same = absurd (cc)
same_bit (suc zero) zero low other same = absurd (cc)
same_bit (suc (suc a)) b low other same = absurd (omega (arith, low))
same_bit a (suc (suc b)) low other same = absurd (omega (arith, other))

low_bits : (n k : ℕ) → k < 16 → bit_at (n % 65536) k ≡ bit_at n k
low_bits n k low =
    let whole : n / 65536 * 65536 + n % 65536 ≡ n = omega arith in
    sym (bit_at_cat_low (n / 65536) 16 (n % 65536) k low) ∙ ap (λ (m : ℕ). bit_at m k) whole

high_bits : (n m k : ℕ) → bit_at (n / 2 ^ m) k ≡ bit_at n (m + k)
high_bits n m k = ap (λ (q : ℕ). q % 2) (div-div-eq-div-mul n (2 ^ m) (2 ^ k) ∙ ap (λ (p : ℕ). n / p) (sym (pow-add 2 m k)))

word_is : (position bits : ℕ) (is_set : ℕ → Bool) → position < 3 → AreBits bits is_set → word_at position bits ≡ bits_where 16 (λ k. is_set (16 * position + k))
word_is position bits is_set few are =
    same_from_bits_below 16 (word_at position bits) (bits_where 16 (λ k. is_set (16 * position + k))) (omega arith) (bits_below 16 (λ k. is_set (16 * position + k)))
    (λ k low. same_bit (bit_at (word_at position bits) k) (bit_at (bits_where 16 (λ k. is_set (16 * position + k))) k)
    (bit_at-lt (word_at position bits) k) (bit_at-lt (bits_where 16 (λ k. is_set (16 * position + k))) k)
    (ap (λ (bit : ℕ). bit == 1) (low_bits (bits / 2 ^ (16 * position)) k low ∙ high_bits bits (16 * position) k)
    ∙ are (16 * position + k) (omega (arith, few, low)) ∙ sym (bit_where 16 (λ k. is_set (16 * position + k)) k low)))

pub block_is : (routes : RoutesState) (partition place position : ℕ) (receives : ℕ → ℕ → Bool) (bits : List ℕ) → LiesInTable partition → position < 3 → length bits ≡ 32
    → AreRangeBits routes partition receives place bits
    → words_at position bits ≡ block_of 32 partition (mask_of_position routes receives place position)
unfolding block_of
block_is routes partition place position receives bits below few long are =
    let mask : ℕ → ℕ = λ i. mask_word routes receives place position (FIRST_MULTICAST_LID + i) in
    let table = mask_of_position routes receives place position in
    let whole : length table ≡ MULTICAST_TABLE = length-map-range_with_len mask 0 MULTICAST_TABLE in
    let count : length (words_at position bits) ≡ 32 = length-map bits (word_at position) ∙ long in
    same_number_lists (words_at position bits) (take 32 (drop (32 * partition) table))
    (count ∙ sym (block_long 32 partition table (omega arith) (has_it partition table below whole)))
    (λ k within.
    let low : k < 32 = omega (arith, count, within) in
    get_or-map (word_at position) bits k 0 0 (omega (arith, low, long))
    ∙ word_is position (get_or bits k 0) (is_in_mask routes receives place (FIRST_MULTICAST_LID + (32 * partition + k))) few (are k low)
    ∙ sym (get_or-take 32 (drop (32 * partition) table) k 0 low ∙ get_or-drop (32 * partition) table k 0
    ∙ get_or-map-range_with_len mask 0 MULTICAST_TABLE (32 * partition + k) (32 * partition + k) 0 (omega (arith, below, low)) (zero-add (32 * partition + k))))
