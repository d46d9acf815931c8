-- A field of some bytes, seen in the few bytes that hold it.
use Rattle.std.proofs.Common.{◌≡◌, ℕ, ◌+◌, ◌*◌, ◌-◌, ◌/◌, ◌%◌, ◌^◌, ◌<◌, ◌≤◌, List, ◌++◌, length, take, drop, refl, sym, ◌∙◌, ap, subst, arith}
use Rattle.std.proofs.Common.{length-append, length-drop, length-take-le}
use Rattle.std.specs.Int.{bytes_high_first}
use Rattle.std.specs.Int.Digits.{AllBelowBase}
use Rattle.std.proofs.lemmas.Nat.{pow-add, shr-shr, shr_high, mod_low, mod-pow-add, field_of, pow_pos, mul-add-lt, shl_whole, shr_below, one_shl, mod_below}
use Rattle.std.proofs.lemmas.List.{take-append-drop}
use Rattle.std.proofs.Math.Pow.{mod-mod-pow, pow_mono}
use Rattle.std.proofs.Math.Nat.{add-mul-div_right, add-mul-mod_self_right, mod-eq_of_lt}
use Rattle.byteorder.specs.Numbers.{length-bytes_high_first}
use Rattle.mad_layout.specs.Bits.{number, digits, field, replaced, put_field}
use Rattle.mad_layout.proofs.NumberLemmas.{number_append, number_below, number_same, number_bytes, below_bytes, below_parts, below_append}

-- digits of digits
digits_within : (n a len s u : ℕ) → digits (digits n a ((u + len) + s)) s len ≡ digits n (a + s) len
digits_within n a len s u =
    ap (λ (x : ℕ). x % 2 ^ len) (field_of (n / 2 ^ a) (u + len) s)
    ∙ mod-mod-pow (n / 2 ^ a / 2 ^ s) u len
    ∙ ap (λ (x : ℕ). x % 2 ^ len) (shr-shr n a s)

-- three parts of a list as one number
parts_number : (a w r : List ℕ) → number (a ++ (w ++ r)) ≡ (number a * 2 ^ (8 * length w) + number w) * 2 ^ (8 * length r) + number r
parts_number a w r =
    let e = number_append a (w ++ r) in
    let f = number_append w r in
    let l = length-append w r in
    let m : 8 * length (w ++ r) ≡ 8 * length w + 8 * length r = omega arith in
    let p = ap (λ (n : ℕ). 2 ^ n) m ∙ pow-add 2 (8 * length w) (8 * length r) in
    rw (e, f, p) (omega arith)

window_law : (a w r : List ℕ) → AllBelowBase 256 w → AllBelowBase 256 r → number w ≡ digits (number (a ++ (w ++ r))) (8 * length r) (8 * length w)
window_law a w r h g =
    let e = parts_number a w r in
    let high = shr_high (number a * 2 ^ (8 * length w) + number w) (8 * length r) (number r) (number_below r g) in
    let low = mod_low (number a) (8 * length w) (number w) (number_below w h) in
    rw (e, high, low) refl

-- where the window stands in the bytes
pub record Cut (xs : List ℕ) (first count : ℕ) : Type 0 where
  pub whole : take first xs ++ (take count (drop first xs) ++ drop count (drop first xs)) ≡ xs
  pub front : length (take first xs) ≡ first
  pub window : length (take count (drop first xs)) ≡ count
  pub rest : length (drop count (drop first xs)) + (first + count) ≡ length xs

pub cut_at : (xs : List ℕ) (first count : ℕ) → first + count ≤ length xs → Cut xs first count
cut_at xs first count h =
    let d = length-drop first xs in
    let e = length-drop count (drop first xs) in
    record {
      whole = ap (λ (ys : List ℕ). take first xs ++ ys) (take-append-drop count (drop first xs)) ∙ take-append-drop first xs;
      front = length-take-le first xs (omega arith);
      window = length-take-le count (drop first xs) (omega arith);
      rest = omega arith;
    }

pub field_from_window : (xs : List ℕ) (first count off len low : ℕ) → AllBelowBase 256 xs → first + count ≤ length xs
    → off + len + low ≡ 8 * (first + count) → 8 * first ≤ off
    → digits (number (take count (drop first xs))) low len ≡ field xs off len
unfolding field
field_from_window xs first count off len low below within ends starts =
    let c = cut_at xs first count within in
    let a = take first xs in
    let w = take count (drop first xs) in
    let r = drop count (drop first xs) in
    let P : List ℕ → Type 0 = AllBelowBase 256 in
    let parts = below_parts a (w ++ r) (subst P (sym c.whole) below) in
    let inner = below_parts w r parts.1 in
    let law = window_law a w r inner.0 inner.1 in
    let wide : 8 * length w ≡ ((off - 8 * first) + len) + low = omega (arith, c.window) in
    let place : 8 * length r + low ≡ 8 * length xs - (off + len) = omega (arith, c.rest) in
    ap (λ (n : ℕ). digits n low len) law
    ∙ ap (λ (n : ℕ). digits (digits (number (a ++ (w ++ r))) (8 * length r) n) low len) wide
    ∙ digits_within (number (a ++ (w ++ r))) (8 * length r) len low (off - 8 * first)
    ∙ ap (λ (ys : List ℕ). digits (number ys) (8 * length r + low) len) c.whole
    ∙ ap (λ (n : ℕ). digits (number xs) n len) place

replaced_low : (n r k low len v : ℕ) → r < 2 ^ k → replaced (n * 2 ^ k + r) (k + low) len v ≡ replaced n low len v * 2 ^ k + r
replaced_low n r k low len v h =
    let x = n * 2 ^ k + r in
    let split : (k + low) + len ≡ k + (low + len) = omega arith in
    let high : x / 2 ^ ((k + low) + len) ≡ n / 2 ^ (low + len) =
    ap (λ (i : ℕ). x / 2 ^ i) split ∙ sym (shr-shr x k (low + len)) ∙ ap (λ (y : ℕ). y / 2 ^ (low + len)) (shr_high n k r h) in
    let turn : k + low ≡ low + k = omega arith in
    let rest : x % 2 ^ (k + low) ≡ n % 2 ^ low * 2 ^ k + r =
    ap (λ (i : ℕ). x % 2 ^ i) turn ∙ mod-pow-add x low k
    ∙ ap (λ (y : ℕ). y % 2 ^ low * 2 ^ k + x % 2 ^ k) (shr_high n k r h)
    ∙ ap (λ (y : ℕ). n % 2 ^ low * 2 ^ k + y) (mod_low n k r h) in
    let p = pow-add 2 k low in
    rw (high, rest, p) (omega arith)

spread : (x b c e l v r q : ℕ) → q ≡ l * e → ((x + b * c) * e + v) * l + r ≡ b * (c * q) + ((x * e + v) * l + r)
spread x b c e l v r q h = rw h (omega arith)

replaced_high : (a w low len s v : ℕ) → replaced (a * 2 ^ (s + (low + len)) + w) low len v ≡ a * 2 ^ (s + (low + len)) + replaced w low len v
replaced_high a w low len s v =
    let p = pow-add 2 s (low + len) in
    let q = pow-add 2 low len in
    let x = a * 2 ^ (s + (low + len)) + w in
    let e : x ≡ w + (a * 2 ^ s) * 2 ^ (low + len) = rw p (omega arith) in
    let f : x ≡ w + (a * 2 ^ s * 2 ^ len) * 2 ^ low = rw (p, q) (omega arith) in
    let high : x / 2 ^ (low + len) ≡ w / 2 ^ (low + len) + a * 2 ^ s =
    ap (λ (y : ℕ). y / 2 ^ (low + len)) e ∙ add-mul-div_right w (a * 2 ^ s) (pow_pos (low + len)) in
    let rest : x % 2 ^ low ≡ w % 2 ^ low =
    ap (λ (y : ℕ). y % 2 ^ low) f ∙ add-mul-mod_self_right w (a * 2 ^ s * 2 ^ len) (2 ^ low) in
    rw (high, rest, p) (spread (w / 2 ^ (low + len)) a (2 ^ s) (2 ^ len) (2 ^ low) v (w % 2 ^ low) (2 ^ (low + len)) q)

put_law : (a w t r : List ℕ) (low len s v : ℕ) → AllBelowBase 256 r → length t ≡ length w
    → 8 * length w ≡ s + (low + len) → number t ≡ replaced (number w) low len v
    → number (a ++ (t ++ r)) ≡ replaced (number (a ++ (w ++ r))) (8 * length r + low) len v
put_law a w t r low len s v below same wide e =
    let k = 8 * length r in
    let old = parts_number a w r in
    let new = parts_number a t r in
    let long : 2 ^ (8 * length t) ≡ 2 ^ (s + (low + len)) = ap (λ (n : ℕ). 2 ^ (8 * n)) same ∙ ap (λ (n : ℕ). 2 ^ n) wide in
    let wlong : 2 ^ (8 * length w) ≡ 2 ^ (s + (low + len)) = ap (λ (n : ℕ). 2 ^ n) wide in
    let up : replaced ((number a * 2 ^ (8 * length w) + number w) * 2 ^ k + number r) (k + low) len
    v ≡ (number a * 2 ^ (s + (low + len)) + replaced (number w) low len v) * 2 ^ k + number r =
    replaced_low (number a * 2 ^ (8 * length w) + number w) (number r) k low len v (number_below r below)
    ∙ ap (λ (n : ℕ). replaced (number a * n + number w) low len v * 2 ^ k + number r) wlong
    ∙ ap (λ (n : ℕ). n * 2 ^ k + number r) (replaced_high (number a) (number w) low len s v) in
    new
    ∙ ap (λ (n : ℕ). (number a * n + number t) * 2 ^ k + number r) long
    ∙ ap (λ (n : ℕ). (number a * 2 ^ (s + (low + len)) + n) * 2 ^ k + number r) e
    ∙ sym up
    ∙ ap (λ (n : ℕ). replaced n (k + low) len v) (sym old)

-- the window rewritten where it stands is the field set
pub put_is : (xs t : List ℕ) (first count off len low v : ℕ) → AllBelowBase 256 xs → AllBelowBase 256 t
    → length t ≡ count → first + count ≤ length xs → off + len + low ≡ 8 * (first + count) → 8 * first ≤ off
    → number t ≡ replaced (number (take count (drop first xs))) low len v
    → take first xs ++ (t ++ drop count (drop first xs)) ≡ put_field xs off len v
unfolding put_field
put_is xs t first count off len low v below fits long within ends starts e =
    let c = cut_at xs first count within in
    let a = take first xs in
    let w = take count (drop first xs) in
    let r = drop count (drop first xs) in
    let P : List ℕ → Type 0 = AllBelowBase 256 in
    let parts = below_parts a (w ++ r) (subst P (sym c.whole) below) in
    let inner = below_parts w r parts.1 in
    let wide : 8 * length w ≡ (off - 8 * first) + (low + len) = omega (arith, c.window) in
    let place : 8 * length r + low ≡ 8 * length xs - (off + len) = omega (arith, c.rest) in
    let size : length (a ++ (t ++ r)) ≡ length xs = let f = length-append a (t ++ r) in let g = length-append t r in omega (arith, c.front, c.rest) in
    let x = replaced (number xs) (8 * length xs - (off + len)) len v in
    let value : number (a ++ (t ++ r)) ≡ x =
    put_law a w t r low len (off - 8 * first) v inner.1 (long ∙ sym c.window) wide e
    ∙ ap (λ (ys : List ℕ). replaced (number ys) (8 * length r + low) len v) c.whole
    ∙ ap (λ (n : ℕ). replaced (number xs) n len v) place in
    let good : AllBelowBase 256 (a ++ (t ++ r)) = below_append a (t ++ r) parts.0 (below_append t r fits inner.1) in
    let small : number (a ++ (t ++ r)) < 2 ^ (8 * length xs) = rw size at (number_below (a ++ (t ++ r)) good) in
    let encoded : number (bytes_high_first (length xs) x) ≡ x = number_bytes (length xs) x ∙ mod-eq_of_lt (rw value at small) in
    number_same (a ++ (t ++ r)) (bytes_high_first (length xs) x) good (below_bytes (length xs) x) (size ∙ sym (length-bytes_high_first (length xs) x)) (value ∙ sym encoded)

-- the shifts of `with_digits` lose nothing in 128 bits, and its result is as wide as the number
pub record Shifts (n low len v m : ℕ) : Type 0 where
  pub high : n / 2 ^ (low + len) * 2 ^ len % 2 ^ 128 ≡ n / 2 ^ (low + len) * 2 ^ len
  pub middle : (n / 2 ^ (low + len) * 2 ^ len + v) * 2 ^ low % 2 ^ 128 ≡ (n / 2 ^ (low + len) * 2 ^ len + v) * 2 ^ low
  pub mask : 1 * 2 ^ low % 2 ^ 128 ≡ 2 ^ low
  pub narrow : n / 2 ^ (low + len) * 2 ^ len + v < 2 ^ m
  pub whole : replaced n low len v < 2 ^ m

pub shifts : (n low len v m : ℕ) → n < 2 ^ m → low + len ≤ m → m < 128 → v < 2 ^ len → Shifts n low len v m
shifts n low len v m small within word fits =
    let d = m - (low + len) in
    let split : m ≡ d + (low + len) = omega arith in
    let high : n / 2 ^ (low + len) < 2 ^ d = shr_below n d (low + len) (rw (ap (λ (i : ℕ). 2 ^ i) split) at small) in
    let h = n / 2 ^ (low + len) in
    let mid = h * 2 ^ len + v in
    let turn : 2 ^ len * 2 ^ d ≡ 2 ^ (len + d) = sym (pow-add 2 len d) in
    let middle : mid < 2 ^ (len + d) = rw turn at (mul-add-lt h (2 ^ len) v (2 ^ d) high fits) in
    let rest : n % 2 ^ low < 2 ^ low = mod_below n (2 ^ low) (pow_pos low) in
    let up : 2 ^ low * 2 ^ (len + d) ≡ 2 ^ m = let s : low + (len + d) ≡ m = omega arith in sym (pow-add 2 low (len + d)) ∙ ap (λ (i : ℕ). 2 ^ i) s in
    let long : 2 ^ (len + d) ≤ 2 ^ m = pow_mono {i = len + d} {j = m} (omega arith) in
    record {
      high = shl_whole h d len 128 high (omega arith);
      middle = shl_whole mid (len + d) low 128 middle (omega arith);
      mask = one_shl low 128 (omega arith);
      narrow = omega arith;
      whole = rw up at (mul-add-lt mid (2 ^ low) (n % 2 ^ low) (2 ^ (len + d)) middle rest);
    }
