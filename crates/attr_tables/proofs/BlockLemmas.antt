-- The entries of a block as fields of its bytes, and how blocks tile a table.
use Rattle.std.proofs.Common.{◌≡◌, ℕ, zero, suc, ◌+◌, ◌*◌, ◌/◌, ◌%◌, ◌<◌, ◌≤◌, List, [], ◌∷◌, length, get_or, take, drop, refl, sym, ◌∙◌, ap, arith, length-drop}
use Rattle.std.specs.Int.{bytes_high_first}
use Rattle.std.specs.Int.Digits.{AllBelowBase}
use Rattle.std.specs.List.{flat_map}
use Rattle.std.proofs.lemmas.Grind.{same_number_lists}
use Rattle.std.proofs.lemmas.Nat.{same_from_place, mod_below}
use Rattle.std.proofs.Math.Nat.{mod-eq_of_lt, div-add-mod', lt_of_mul-lt-mul_left}
use Rattle.byteorder.specs.Endian.{big_from}
use Rattle.mad_layout.specs.Bits.{number, field}
use Rattle.mad_layout.proofs.NumberLemmas.{number_of_big, number_bytes}
use Rattle.mad_layout.proofs.AlignedLemmas.{field_aligned}
use Rattle.attr_tables.specs.Blocks.{HoldsEntries}
use Rattle.attr_tables.specs.Laws.{BlocksTile}

pub word_is_field : (xs : List ℕ) (k : ℕ) → AllBelowBase 256 xs → 2 * k + 2 ≤ length xs → big_from 0 2 (drop (2 * k) xs) ≡ field xs (16 * k) 16
word_is_field xs k below h =
    let d = length-drop (2 * k) xs in
    number_of_big 2 (drop (2 * k) xs) (omega arith) ∙ field_aligned xs (2 * k) 2 (16 * k) 16 below h (omega arith) refl

part_at : (words : List ℕ) (k : ℕ) → k < length words
    → take 2 (drop (2 * k) (flat_map (bytes_high_first 2) words)) ≡ bytes_high_first 2 (get_or words k 0)
part_at [] k h = absurd (omega arith)
part_at (w ∷ words) zero h = refl
part_at (w ∷ words) (suc k) h =
    let e : 2 * suc k ≡ suc (suc (2 * k)) = omega arith in
    ap (λ (n : ℕ). take 2 (drop n (flat_map (bytes_high_first 2) (w ∷ words)))) e ∙ part_at words k (omega arith)

pub written_word : (bytes words : List ℕ) (k : ℕ) → AllBelowBase 256 bytes
    → bytes ≡ flat_map (bytes_high_first 2) words → k < length words → 2 * k + 2 ≤ length bytes
    → get_or words k 0 < 65536 → get_or words k 0 ≡ field bytes (16 * k) 16
written_word bytes words k below e h within small =
    let w = get_or words k 0 in
    let value : number (bytes_high_first 2 w) ≡ w = number_bytes 2 w ∙ mod-eq_of_lt small in
    sym value
    ∙ ap number (sym (part_at words k h))
    ∙ ap (λ (ys : List ℕ). number (take 2 (drop (2 * k) ys))) (sym e)
    ∙ field_aligned bytes (2 * k) 2 (16 * k) 16 below within (omega arith) refl

pub blocks_tile : BlocksTile
blocks_tile size entries blocks index count h =
    let some : 0 < size = omega (arith, count.no_more, count.enough) in
    let whole = div-add-mod' index size in
    let low = mod_below index size some in
    let turn : size * (index / size) + index % size ≡ index = omega arith in
    let less : size * (index / size) < size * blocks = omega (arith, count.enough) in
    record {
      block = index / size;
      place = index % size;
      there = lt_of_mul-lt-mul_left size less;
      stands = record { counted = turn; within = low };
      alone = λ b p s. same_from_place b p (index / size) (index % size) size s.within low (let q = s.counted in omega arith);
    }

pub same_entries : (bytes : List ℕ) (len : ℕ) (xs ys : List ℕ) → length xs ≡ length ys → HoldsEntries bytes len xs
    → HoldsEntries bytes len ys → xs ≡ ys
same_entries bytes len xs ys long h g = same_number_lists xs ys long (λ k below. h k below ∙ sym (g k (omega arith)))
