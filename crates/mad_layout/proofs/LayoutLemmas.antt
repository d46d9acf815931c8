-- The laws of layouts, over any list of places.
use Rattle.std.proofs.Common.{◌≡◌, ℕ, zero, suc, ◌+◌, ◌*◌, ◌-◌, ◌/◌, ◌%◌, ◌^◌, ◌<◌, ◌≤◌, true, ◌&&◌, ◌⊎◌, inl, inr, nat_le, List, [], ◌∷◌, length}
use Rattle.std.proofs.Common.{replicate, take, drop, refl, sym, ◌∙◌, ap, subst, arith}
use Rattle.std.specs.Int.{bytes_high_first}
use Rattle.std.specs.Int.Digits.{AllBelowBase}
use Rattle.std.proofs.lemmas.Nat.{shr-shr, shr_high, mod_low, field_of, pow_pos, mod_below}
use Rattle.std.proofs.lemmas.List.{length-replicate}
use Rattle.std.proofs.lemmas.Bool.{and_parts, leb-true, or_cases}
use Rattle.std.proofs.Math.Pow.{mod-mod-pow}
use Rattle.std.proofs.Math.Nat.{div-eq_of_lt, mod-eq_of_lt}
use Rattle.byteorder.specs.Numbers.{length-bytes_high_first}
use Rattle.mad_layout.specs.Bits.{number, digits, field, replaced, put_field}
use Rattle.mad_layout.specs.Layout.{Field, Holds, Fits, put_all, is_apart, is_free, is_layout, Encodes, Sets}
use Rattle.mad_layout.proofs.NumberLemmas.{below_bytes, number_bytes, number_cons}

pub length-put_field : (xs : List ℕ) (off len v : ℕ) → length (put_field xs off len v) ≡ length xs
unfolding put_field
length-put_field xs off len v = length-bytes_high_first (length xs) (replaced (number xs) (8 * length xs - (off + len)) len v)

pub put_below : (xs : List ℕ) (off len v : ℕ) → AllBelowBase 256 (put_field xs off len v)
unfolding put_field
put_below xs off len v = below_bytes (length xs) (replaced (number xs) (8 * length xs - (off + len)) len v)

-- digits of a number that is cut to more digits than they reach
digits_of_cut : (n k low len : ℕ) → low + len ≤ k → digits (n % 2 ^ k) low len ≡ digits n low len
digits_of_cut n k low len h =
    let d = k - (low + len) in
    let split : k ≡ (d + len) + low = omega arith in
    ap (λ (i : ℕ). n % 2 ^ i / 2 ^ low % 2 ^ len) split
    ∙ ap (λ (x : ℕ). x % 2 ^ len) (field_of n (d + len) low)
    ∙ mod-mod-pow (n / 2 ^ low) d len

digits_replaced_same : (n low len v : ℕ) → v < 2 ^ len → digits (replaced n low len v) low len ≡ v
digits_replaced_same n low len v h =
    let rest : n % 2 ^ low < 2 ^ low = mod_below n (2 ^ low) (pow_pos low) in
    ap (λ (x : ℕ). x % 2 ^ len) (shr_high (n / 2 ^ (low + len) * 2 ^ len + v) low (n % 2 ^ low) rest)
    ∙ mod_low (n / 2 ^ (low + len)) len v h

-- digits above those that are replaced
digits_replaced_above : (n low len v l k : ℕ) → v < 2 ^ len → low + len ≤ l → digits (replaced n low len v) l k ≡ digits n l k
digits_replaced_above n low len v l k h g =
    let rest : n % 2 ^ low < 2 ^ low = mod_below n (2 ^ low) (pow_pos low) in
    let d = l - (low + len) in
    let split : l ≡ low + (len + d) = omega arith in
    let turn : l ≡ (low + len) + d = omega arith in
    let x = replaced n low len v in
    let up : x / 2 ^ l ≡ n / 2 ^ l =
    ap (λ (i : ℕ). x / 2 ^ i) split
    ∙ sym (shr-shr x low (len + d))
    ∙ ap (λ (y : ℕ). y / 2 ^ (len + d)) (shr_high (n / 2 ^ (low + len) * 2 ^ len + v) low (n % 2 ^ low) rest)
    ∙ sym (shr-shr (n / 2 ^ (low + len) * 2 ^ len + v) len d)
    ∙ ap (λ (y : ℕ). y / 2 ^ d) (shr_high (n / 2 ^ (low + len)) len v h)
    ∙ shr-shr n (low + len) d
    ∙ ap (λ (i : ℕ). n / 2 ^ i) (sym turn) in
    ap (λ (y : ℕ). y % 2 ^ k) up

-- digits below those that are replaced
digits_replaced_below : (n low len v l k : ℕ) → l + k ≤ low → digits (replaced n low len v) l k ≡ digits n l k
digits_replaced_below n low len v l k h =
    let rest : n % 2 ^ low < 2 ^ low = mod_below n (2 ^ low) (pow_pos low) in
    sym (digits_of_cut (replaced n low len v) low l k h)
    ∙ ap (λ (y : ℕ). digits y l k) (mod_low (n / 2 ^ (low + len) * 2 ^ len + v) low (n % 2 ^ low) rest)
    ∙ digits_of_cut n low l k h

-- a field of the bytes that a field was put into, as digits
field_of_put : (xs : List ℕ) (off len v o l : ℕ) → o + l ≤ 8 * length xs
    → field (put_field xs off len v) o l ≡ digits (replaced (number xs) (8 * length xs - (off + len)) len v) (8 * length xs - (o + l)) l
unfolding field put_field
field_of_put xs off len v o l h =
    let x = replaced (number xs) (8 * length xs - (off + len)) len v in
    let size : length (bytes_high_first (length xs) x) ≡ length xs = length-bytes_high_first (length xs) x in
    ap (λ (n : ℕ). digits (number (bytes_high_first (length xs) x)) (8 * n - (o + l)) l) size
    ∙ ap (λ (n : ℕ). digits n (8 * length xs - (o + l)) l) (number_bytes (length xs) x)
    ∙ digits_of_cut x (8 * length xs) (8 * length xs - (o + l)) l (omega arith)

pub field-put_same : (xs : List ℕ) (off len v : ℕ) → off + len ≤ 8 * length xs → v < 2 ^ len → field (put_field xs off len v) off len ≡ v
field-put_same xs off len v h g =
    field_of_put xs off len v off len h ∙ digits_replaced_same (number xs) (8 * length xs - (off + len)) len v g

pub field-put_apart : (xs : List ℕ) (off len v o l : ℕ) → off + len ≤ 8 * length xs → o + l ≤ 8 * length xs
    → v < 2 ^ len → (o + l ≤ off) ⊎ (off + len ≤ o) → field (put_field xs off len v) o l ≡ field xs o l
unfolding field
field-put_apart xs off len v o l h g f apart =
    let low = 8 * length xs - (off + len) in
    let place = 8 * length xs - (o + l) in
    field_of_put xs off len v o l g
    ∙ elim apart [
      | inl before ↦ digits_replaced_above (number xs) low len v place l f (omega arith)
      | inr after ↦ digits_replaced_below (number xs) low len v place l (omega arith)
    ]

pub length-put_all : (xs : List ℕ) (ps : List Field) → length (put_all xs ps) ≡ length xs
length-put_all xs [] = refl
length-put_all xs (p ∷ ps) =
    length-put_all (put_field xs p.off p.len p.value) ps ∙ length-put_field xs p.off p.len p.value

pub apart_parts : (off len : ℕ) (p : Field) → is_apart off len p ≡ true → (off + len ≤ p.off) ⊎ (p.off + p.len ≤ off)
apart_parts off len p h =
    elim (or_cases (nat_le (off + len) p.off) (nat_le (p.off + p.len) off) h) [
      | inl before ↦ inl (leb-true (off + len) p.off before)
      | inr after ↦ inr (leb-true (p.off + p.len) off after)
    ]

-- what `is_layout` says of a first place
pub record First (size : ℕ) (p : Field) (ps : List Field) : Type 0 where
  pub within : p.off + p.len ≤ size
  pub free : is_free p.off p.len ps ≡ true
  pub rest : is_layout size ps ≡ true

pub first_of_layout : (size : ℕ) (p : Field) (ps : List Field) → is_layout size (p ∷ ps) ≡ true → First size p ps
first_of_layout size p ps h =
    let a = and_parts (nat_le (p.off + p.len) size) (is_free p.off p.len ps && is_layout size ps) h in
    let b = and_parts (is_free p.off p.len ps) (is_layout size ps) a.1 in
    record { within = leb-true (p.off + p.len) size a.0; free = b.0; rest = b.1 }

-- the same layout test after a field was put
moved : (xs : List ℕ) (p : Field) (ps : List Field) → is_layout (8 * length xs) ps ≡ true
    → is_layout (8 * length (put_field xs p.off p.len p.value)) ps ≡ true
moved xs p ps h = ap (λ (n : ℕ). is_layout (8 * n) ps) (length-put_field xs p.off p.len p.value) ∙ h

-- a field that is free of the layout stays
pub stays : (xs : List ℕ) (ps : List Field) (off len : ℕ) → is_layout (8 * length xs) ps ≡ true → Fits ps
    → off + len ≤ 8 * length xs → is_free off len ps ≡ true → field (put_all xs ps) off len ≡ field xs off len
stays xs [] off len layout fits within free = refl
stays xs (p ∷ ps) off len layout fits within free =
    let first = first_of_layout (8 * length xs) p ps layout in
    let a = and_parts (is_apart off len p) (is_free off len ps) free in
    let size = length-put_field xs p.off p.len p.value in
    stays (put_field xs p.off p.len p.value) ps off len (moved xs p ps first.rest) fits.1 (omega (arith, size)) a.1
    ∙ field-put_apart xs p.off p.len p.value off len first.within within fits.0 (apart_parts off len p a.0)

pub holds_put_all : (xs : List ℕ) (ps : List Field) → is_layout (8 * length xs) ps ≡ true → Fits ps → Holds (put_all xs ps) ps
holds_put_all xs [] layout fits = tt
holds_put_all xs (p ∷ ps) layout fits =
    let first = first_of_layout (8 * length xs) p ps layout in
    let ys = put_field xs p.off p.len p.value in
    let size = length-put_field xs p.off p.len p.value in
    let rest = moved xs p ps first.rest in
    let kept = stays ys ps p.off p.len rest fits.1 (omega (arith, size, first.within)) first.free in
    (sym (kept ∙ field-put_same xs p.off p.len p.value first.within fits.0), holds_put_all ys ps rest fits.1)

pub sets_put_all : (ps : List Field) (old : List ℕ) → is_layout (8 * length old) ps ≡ true → Fits ps → Sets old (put_all old ps) ps
sets_put_all ps old layout fits =
    record {
      fields = holds_put_all old ps layout fits;
      others = λ off len within free. stays old ps off len layout fits within free;
      same_length = length-put_all old ps;
    }

-- ---- a layout in two parts
pub fits_take : (n : ℕ) (ps : List Field) → Fits ps → Fits (take n ps)
fits_take zero ps h = tt
fits_take (suc n) [] h = tt
fits_take (suc n) (p ∷ ps) h = (h.0, fits_take n ps h.1)

pub fits_drop : (n : ℕ) (ps : List Field) → Fits ps → Fits (drop n ps)
fits_drop zero ps h = h
fits_drop (suc n) [] h = tt
fits_drop (suc n) (p ∷ ps) h = fits_drop n ps h.1

pub fits_both : (n : ℕ) (ps : List Field) → Fits (take n ps) → Fits (drop n ps) → Fits ps
fits_both zero ps front rest = rest
fits_both (suc n) [] front rest = tt
fits_both (suc n) (p ∷ ps) front rest = (front.0, fits_both n ps front.1 rest)

pub holds_both : (bytes : List ℕ) (n : ℕ) (ps : List Field) → Holds bytes (take n ps) → Holds bytes (drop n ps) → Holds bytes ps
holds_both bytes zero ps front rest = rest
holds_both bytes (suc n) [] front rest = tt
holds_both bytes (suc n) (p ∷ ps) front rest = (front.0, holds_both bytes n ps front.1 rest)

-- ---- zero bytes
pub number_zeros : (n : ℕ) → number (replicate n 0) ≡ 0
number_zeros zero = refl
number_zeros (suc n) = let e = number_zeros n in number_cons 0 (replicate n 0) ∙ omega arith

pub zeros_below : (n : ℕ) → AllBelowBase 256 (replicate n 0)
zeros_below zero = tt
zeros_below (suc n) = (omega arith, zeros_below n)

-- and fields that were put over them
pub encoded_below : (ps : List Field) (n : ℕ) → AllBelowBase 256 (put_all (replicate n 0) ps)
encoded_below ps n = over ps (replicate n 0) (zeros_below n)
  where
    over : (ps : List Field) (xs : List ℕ) → AllBelowBase 256 xs → AllBelowBase 256 (put_all xs ps)
    over [] xs below = below
    over (p ∷ ps) xs below = over ps (put_field xs p.off p.len p.value) (put_below xs p.off p.len p.value)

pub field_zeros : (n off len : ℕ) → field (replicate n 0) off len ≡ 0
unfolding field
field_zeros n off len =
    let low = 8 * length (replicate n 0) - (off + len) in
    ap (λ (m : ℕ). digits m low len) (number_zeros n)
    ∙ ap (λ (m : ℕ). m % 2 ^ len) (div-eq_of_lt (pow_pos low))
    ∙ mod-eq_of_lt (pow_pos len)

pub encodes_put_all : (ps : List Field) (n : ℕ) → is_layout (8 * n) ps ≡ true → Fits ps → Encodes (put_all (replicate n 0) ps) ps
encodes_put_all ps n layout fits =
    let zeros = replicate n 0 in
    let test : is_layout (8 * length zeros) ps ≡ true = ap (λ (m : ℕ). is_layout (8 * m) ps) (length-replicate n 0) ∙ layout in
    let size = length-put_all zeros ps in
    record {
      fields = holds_put_all zeros ps test fits;
      others = λ off len within free. stays zeros ps off len test fits (omega (arith, size)) free ∙ field_zeros n off len;
    }

pub field_narrow : (bytes : List ℕ) (off len : ℕ) → field bytes off len < 2 ^ len
unfolding field
field_narrow bytes off len = mod_below (number bytes / 2 ^ (8 * length bytes - (off + len))) (2 ^ len) (pow_pos len)

pub fits_from_holds : (bytes : List ℕ) (ps : List Field) → Holds bytes ps → Fits ps
fits_from_holds bytes [] h = tt
fits_from_holds bytes (p ∷ ps) h = let n = field_narrow bytes p.off p.len in (omega (arith, h.0), fits_from_holds bytes ps h.1)

-- a header put into a MAD is set there
pub sets_mad : (ps : List Field) (old new : List ℕ) → length old ≡ 256 → is_layout 2048 ps ≡ true → new ≡ put_all old ps → Fits ps → Sets old new ps
sets_mad ps old new long layout e fits =
    let P : List ℕ → Type 0 = λ bytes. Sets old bytes ps in
    subst P (sym e) (sets_put_all ps old (ap (λ (n : ℕ). is_layout (8 * n) ps) long ∙ layout) fits)

-- ---- parts of bytes are bytes
pub below_taken : (n : ℕ) (xs : List ℕ) → AllBelowBase 256 xs → AllBelowBase 256 (take n xs)
below_taken zero xs h = tt
below_taken (suc n) [] h = tt
below_taken (suc n) (x ∷ xs) h = (h.0, below_taken n xs h.1)

pub below_dropped : (n : ℕ) (xs : List ℕ) → AllBelowBase 256 xs → AllBelowBase 256 (drop n xs)
below_dropped zero xs h = h
below_dropped (suc n) [] h = tt
below_dropped (suc n) (x ∷ xs) h = below_dropped n xs h.1
