-- Two fields that have no bit in common are put in either order. Bytes are the same where each bit is.
use Rattle.std.proofs.Common.{◌≡◌, ℕ, zero, suc, ◌+◌, ◌*◌, ◌-◌, ◌/◌, ◌%◌, ◌^◌, ◌<◌, ◌≤◌, ◌⊎◌, inl, inr, List, length, sym, ◌∙◌, ap, arith}
use Rattle.std.specs.Int.Digits.{AllBelowBase}
use Rattle.std.proofs.lemmas.Bool.{cases_lt}
use Rattle.std.proofs.lemmas.Nat.{pow-add, shr-shr, field_of}
use Rattle.std.proofs.Math.Nat.{div-one, div-add-mod'}
use Rattle.std.proofs.Math.Pow.{mod-mod-pow}
use Rattle.mad_layout.specs.Bits.{number, digits, field, put_field}
use Rattle.mad_layout.proofs.LayoutLemmas.{field-put_apart, field-put_same, length-put_field, put_below}
use Rattle.mad_layout.proofs.NumberLemmas.{number_below, number_same}

half_below : (n k : ℕ) → n < 2 ^ suc k → n / 2 < 2 ^ k
half_below n k h =
    let p = pow-add 2 1 k in
    let e : suc k ≡ 1 + k = omega arith in
    let w : n < 2 * 2 ^ k = rw (ap (λ (i : ℕ). 2 ^ i) e ∙ p) at h in
    omega arith

upper_digit : (n i : ℕ) → digits (n / 2) i 1 ≡ digits n (suc i) 1
upper_digit n i =
    let e : 1 + i ≡ suc i = omega arith in
    ap (λ (x : ℕ). x % 2) (shr-shr n 1 i ∙ ap (λ (j : ℕ). n / 2 ^ j) e)

upper : (n m i : ℕ) → digits n (suc i) 1 ≡ digits m (suc i) 1 → digits (n / 2) i 1 ≡ digits (m / 2) i 1
upper n m i h = upper_digit n i ∙ h ∙ sym (upper_digit m i)

numbers_same : (k n m : ℕ) → n < 2 ^ k → m < 2 ^ k → ((i : ℕ) → i < k → digits n i 1 ≡ digits m i 1) → n ≡ m
numbers_same zero n m h g same = omega arith
numbers_same (suc k) n m h g same =
    let low : n / 1 % 2 ≡ m / 1 % 2 = same 0 (omega arith) in
    let one = div-one n in
    let two = div-one m in
    let up = numbers_same k (n / 2) (m / 2) (half_below n k h) (half_below m k g) (λ i below. upper n m i (same (suc i) (omega arith))) in
    let a = div-add-mod' n 2 in
    let b = div-add-mod' m 2 in
    omega arith

same_by_bits : (xs ys : List ℕ) → AllBelowBase 256 xs → AllBelowBase 256 ys → length ys ≡ length xs
    → ((bit : ℕ) → bit < 8 * length xs → field xs bit 1 ≡ field ys bit 1) → xs ≡ ys
unfolding field
same_by_bits xs ys below low long same =
    let size = 8 * length xs in
    let fit : number ys < 2 ^ size = rw (ap (λ (n : ℕ). 2 ^ (8 * n)) long) at (number_below ys low) in
    number_same xs ys below low (sym long)
    (numbers_same size (number xs) (number ys) (number_below xs below) fit (λ i h.
    let place : size - (size - (i + 1) + 1) ≡ i = omega arith in
    let there : 8 * length ys - (size - (i + 1) + 1) ≡ i = omega arith in
    let bit = same (size - (i + 1)) (omega arith) in
    ap (λ (n : ℕ). digits (number xs) n 1) (sym place) ∙ bit ∙ ap (λ (n : ℕ). digits (number ys) n 1) there))

-- a bit of a field is a bit of what the field holds
bit_of_field : (xs : List ℕ) (off len bit : ℕ) → off + len ≤ 8 * length xs → off ≤ bit → bit < off + len
    → field xs bit 1 ≡ digits (field xs off len) (off + len - (bit + 1)) 1
unfolding field
bit_of_field xs off len bit within from to =
    let n = number xs in
    let a = 8 * length xs - (off + len) in
    let s = off + len - (bit + 1) in
    let d = len - s in
    let wide : len ≡ d + s = omega arith in
    let place : 8 * length xs - (bit + 1) ≡ a + s = omega arith in
    let one : d ≡ (d - 1) + 1 = omega arith in
    ap (λ (i : ℕ). n / 2 ^ i % 2 ^ 1) place
    ∙ ap (λ (x : ℕ). x % 2 ^ 1) (sym (shr-shr n a s))
    ∙ sym (mod-mod-pow (n / 2 ^ a / 2 ^ s) (d - 1) 1)
    ∙ ap (λ (i : ℕ). n / 2 ^ a / 2 ^ s % 2 ^ i % 2 ^ 1) (sym one)
    ∙ ap (λ (x : ℕ). x % 2 ^ 1) (sym (field_of (n / 2 ^ a) d s))
    ∙ ap (λ (i : ℕ). n / 2 ^ a % 2 ^ i / 2 ^ s % 2 ^ 1) (sym wide)

-- where a bit lies, beside a field
data Lies (off len bit : ℕ) : Type 0 where
  inside : off ≤ bit → bit < off + len → Lies off len bit
  beside : (bit + 1 ≤ off) ⊎ (off + len ≤ bit) → Lies off len bit

lies : (off len bit : ℕ) → Lies off len bit
lies off len bit = elim (cases_lt bit off) [
  | inl before ↦ beside (inl (omega arith))
  | inr from ↦ elim (cases_lt bit (off + len)) [
    | inl to ↦ inside from to
    | inr after ↦ beside (inr after)
  ]
]

-- the bits of a field that was put
bit_put : (xs : List ℕ) (off len v bit : ℕ) → off + len ≤ 8 * length xs → v < 2 ^ len → off ≤ bit → bit < off + len
    → field (put_field xs off len v) bit 1 ≡ digits v (off + len - (bit + 1)) 1
bit_put xs off len v bit within fits from to =
    let long = length-put_field xs off len v in
    bit_of_field (put_field xs off len v) off len bit (omega arith) from to
    ∙ ap (λ (n : ℕ). digits n (off + len - (bit + 1)) 1) (field-put_same xs off len v within fits)

bit_kept : (xs : List ℕ) (off len v bit : ℕ) → off + len ≤ 8 * length xs → v < 2 ^ len → bit < 8 * length xs
    → (bit + 1 ≤ off) ⊎ (off + len ≤ bit) → field (put_field xs off len v) bit 1 ≡ field xs bit 1
bit_kept xs off len v bit within fits there apart =
    field-put_apart xs off len v bit 1 within (omega arith) fits apart

swap_bit : (xs : List ℕ) (off len v off2 len2 v2 bit : ℕ) → off + len ≤ 8 * length xs → off2 + len2 ≤ 8 * length xs
    → v < 2 ^ len → v2 < 2 ^ len2 → (off2 + len2 ≤ off) ⊎ (off + len ≤ off2) → bit < 8 * length xs → Lies off len bit
    → Lies off2 len2 bit
    → field (put_field (put_field xs off len v) off2 len2 v2) bit 1 ≡ field (put_field (put_field xs off2 len2 v2) off len v) bit 1
swap_bit xs off len v off2 len2 v2 bit within within2 fits fits2 apart there (inside from to) (inside from2 to2) =
    absurd (elim apart [ inl before ↦ omega arith | inr after ↦ omega arith ])
swap_bit xs off len v off2 len2 v2 bit within within2 fits fits2 apart there (inside from to) (beside other) =
    let a = length-put_field xs off len v in
    let b = length-put_field xs off2 len2 v2 in
    bit_kept (put_field xs off len v) off2 len2 v2 bit (omega arith) fits2 (omega arith) other
    ∙ bit_put xs off len v bit within fits from to
    ∙ sym (bit_put (put_field xs off2 len2 v2) off len v bit (omega arith) fits from to)
swap_bit xs off len v off2 len2 v2 bit within within2 fits fits2 apart there (beside other) (inside from2 to2) =
    let a = length-put_field xs off len v in
    let b = length-put_field xs off2 len2 v2 in
    bit_put (put_field xs off len v) off2 len2 v2 bit (omega arith) fits2 from2 to2
    ∙ sym (bit_put xs off2 len2 v2 bit within2 fits2 from2 to2)
    ∙ sym (bit_kept (put_field xs off2 len2 v2) off len v bit (omega arith) fits (omega arith) other)
swap_bit xs off len v off2 len2 v2 bit within within2 fits fits2 apart there (beside other) (beside other2) =
    let a = length-put_field xs off len v in
    let b = length-put_field xs off2 len2 v2 in
    bit_kept (put_field xs off len v) off2 len2 v2 bit (omega arith) fits2 (omega arith) other2
    ∙ bit_kept xs off len v bit within fits there other
    ∙ sym (bit_kept xs off2 len2 v2 bit within2 fits2 there other2)
    ∙ sym (bit_kept (put_field xs off2 len2 v2) off len v bit (omega arith) fits (omega arith) other)

-- fields that have no bit in common are put in either order
pub put_swap : (xs : List ℕ) (off len v off2 len2 v2 : ℕ) → off + len ≤ 8 * length xs → off2 + len2 ≤ 8 * length xs
    → v < 2 ^ len → v2 < 2 ^ len2 → (off2 + len2 ≤ off) ⊎ (off + len ≤ off2)
    → put_field (put_field xs off len v) off2 len2 v2 ≡ put_field (put_field xs off2 len2 v2) off len v
put_swap xs off len v off2 len2 v2 within within2 fits fits2 apart =
    let x = put_field xs off len v in
    let y = put_field xs off2 len2 v2 in
    let a = length-put_field xs off len v in
    let b = length-put_field x off2 len2 v2 in
    let c = length-put_field xs off2 len2 v2 in
    let d = length-put_field y off len v in
    same_by_bits (put_field x off2 len2 v2) (put_field y off len v) (put_below x off2 len2 v2) (put_below y off len v) (omega arith) (λ bit h.
    swap_bit xs off len v off2 len2 v2 bit within within2 fits fits2 apart (omega arith) (lies off len bit) (lies off2 len2 bit))
