-- What is read from bytes that begin with others, and from bytes that are 0.
use Rattle.std.proofs.Common.{◌≡◌, ℕ, Bool, true, false, ◌+◌, ◌*◌, ◌-◌, ◌/◌, ◌%◌, ◌^◌, ◌≤◌, ◌==◌, List, [], ◌∷◌, ◌++◌, length}
use Rattle.std.proofs.Common.{replicate, refl, sym, ◌∙◌, ap, subst, arith}
use Rattle.std.specs.Int.{bytes_high_first}
use Rattle.std.specs.Int.Digits.{AllBelowBase}
use Rattle.std.proofs.lemmas.List.{length-append}
use Rattle.std.proofs.Math.Nat.{zero-div, zero-mod}
use Rattle.std.proofs.Math.Seq.{take-append_seam}
use Rattle.byteorder.specs.Numbers.{length-bytes_high_first}
use Rattle.mad_layout.specs.Bits.{bit_of, number, field, replaced, put_field}
use Rattle.mad_layout.specs.Layout.{Field, Holds, put_all, is_layout}
use Rattle.mad_layout.proofs.AlignedLemmas.{field_of_part}
use Rattle.mad_layout.proofs.NumberLemmas.{below_append, below_bytes, number_bytes, number_same}
use Rattle.mad_layout.proofs.LayoutLemmas.{first_of_layout, field_zeros, number_zeros, zeros_below}

-- ---- bytes at the front of others
pub field_front : (xs ys : List ℕ) (off len : ℕ) → AllBelowBase 256 xs → AllBelowBase 256 ys → off + len ≤ 8 * length xs
    → field xs off len ≡ field (xs ++ ys) off len
field_front xs ys off len h g within =
    let size = length-append xs ys in
    let P : List ℕ → Type 0 = λ bytes. field bytes off len ≡ field (xs ++ ys) (8 * 0 + off) len in
    let placed : (8 * 0 + off) ≡ off = omega arith in
    subst P (take-append_seam xs ys)
    (field_of_part (xs ++ ys) 0 (length xs) off len (below_append xs ys h g) (omega (arith, size)) within)
    ∙ ap (λ (first : ℕ). field (xs ++ ys) first len) placed

pub holds_front : (xs ys : List ℕ) (ps : List Field) → AllBelowBase 256 xs → AllBelowBase 256 ys → is_layout (8 * length xs) ps ≡ true
    → Holds xs ps → Holds (xs ++ ys) ps
holds_front xs ys [] h g layout held = tt
holds_front xs ys (p ∷ ps) h g layout held =
    let first = first_of_layout (8 * length xs) p ps layout in
    (held.0 ∙ field_front xs ys p.off p.len h g first.within, holds_front xs ys ps h g first.rest held.1)

-- a flag is read as it is written
pub flag_is : (flag : Bool) (n : ℕ) → bit_of flag ≡ n → (n == 1) ≡ flag
flag_is true n e = ap (λ (k : ℕ). k == 1) (sym e)
flag_is false n e = ap (λ (k : ℕ). k == 1) (sym e)

-- ---- bytes that are 0
none_left : (low len : ℕ) → replaced 0 low len 0 ≡ 0
none_left low len =
    let a : 0 / 2 ^ (low + len) ≡ 0 = zero-div (2 ^ (low + len)) in
    let b : 0 % 2 ^ low ≡ 0 = zero-mod (2 ^ low) in
    rw (a, b) (omega arith)

put_zero : (n off len : ℕ) → put_field (replicate n 0) off len 0 ≡ replicate n 0
unfolding put_field
put_zero n off len =
    let zeros = replicate n 0 in
    let none : number zeros ≡ 0 = number_zeros n in
    let low = 8 * length zeros - (off + len) in
    let after : replaced (number zeros) low len 0 ≡ 0 = rw none (none_left low len) in
    let written = number_bytes (length zeros) (replaced (number zeros) low len 0) in
    let nothing : number (bytes_high_first (length zeros) (replaced (number zeros) low len 0)) ≡ 0 = written ∙ rw after (omega arith) in
    number_same _ zeros (below_bytes (length zeros) (replaced (number zeros) low len 0)) (zeros_below n)
    (length-bytes_high_first (length zeros) (replaced (number zeros) low len 0)) (nothing ∙ sym none)

-- a record that zeros are read as is encoded by zeros
pub zeros_encoded : (n m : ℕ) (ps : List Field) → Holds (replicate m 0) ps → put_all (replicate n 0) ps ≡ replicate n 0
zeros_encoded n m [] held = refl
zeros_encoded n m (p ∷ ps) held =
    let none : p.value ≡ 0 = held.0 ∙ field_zeros m p.off p.len in
    ap (λ (v : ℕ). put_all (put_field (replicate n 0) p.off p.len v) ps) none
    ∙ ap (λ (bytes : List ℕ). put_all bytes ps) (put_zero n p.off p.len)
    ∙ zeros_encoded n m ps held.1
