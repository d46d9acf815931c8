-- Bytes as the number that they encode.
use Rattle.std.proofs.Common.{◌≡◌, ℕ, zero, suc, ◌+◌, ◌*◌, ◌-◌, ◌%◌, ◌^◌, ◌<◌, ◌≤◌, List, [], ◌∷◌, ◌++◌, length, get_or, take, drop, refl, sym, ◌∙◌, ap, arith, length-take-le}
use Rattle.std.specs.Int.{byte_at, bytes_high_first}
use Rattle.std.specs.Int.Digits.{number_from_digits_after, AllBelowBase}
use Rattle.std.proofs.lemmas.Int.Digits.{number_after_append, number_lt}
use Rattle.std.proofs.lemmas.Nat.{pow-add, same_from_place}
use Rattle.std.proofs.Math.Seq.{take-length}
use Rattle.byteorder.specs.Endian.{big_from}
use Rattle.byteorder.specs.Numbers.{big_from-take, big_from-cons, big_from-bytes, big_from-append, length-bytes_high_first}
use Rattle.mad_layout.specs.Bits.{number}

pow_suc : (k : ℕ) → 2 ^ (8 * suc k) ≡ 256 * 2 ^ (8 * k)
pow_suc k = let e : 8 * suc k ≡ 8 + 8 * k = omega arith in ap (λ (n : ℕ). 2 ^ n) e ∙ pow-add 2 8 (8 * k)

pub pow_bytes : (k : ℕ) → 256 ^ k ≡ 2 ^ (8 * k)
pow_bytes zero = refl
pow_bytes (suc k) = let h = pow_suc k in let i = pow_bytes k in grind (arith, h, i)

after_is : (n : ℕ) (ds : List ℕ) → number_from_digits_after 256 n ds ≡ n * 2 ^ (8 * length ds) + number ds
after_is n [] = omega arith
after_is n (d ∷ ds) =
    let a = after_is (n * 256 + d) ds in
    let b = after_is (0 * 256 + d) ds in
    let s = pow_suc (length ds) in
    rw (a, b, s) (omega arith)

pub number_cons : (d : ℕ) (ds : List ℕ) → number (d ∷ ds) ≡ d * 2 ^ (8 * length ds) + number ds
number_cons d ds = let a = after_is (0 * 256 + d) ds in rw a (omega arith)

pub number_append : (xs ys : List ℕ) → number (xs ++ ys) ≡ number xs * 2 ^ (8 * length ys) + number ys
number_append xs ys = number_after_append 256 0 xs ys ∙ after_is (number xs) ys

pub each_below : (xs : List ℕ) → ((k : ℕ) → get_or xs k 0 < 256) → AllBelowBase 256 xs
each_below [] h = tt
each_below (x ∷ xs) h = (h 0, each_below xs (λ k. h (suc k)))

pub below_parts : (xs ys : List ℕ) → AllBelowBase 256 (xs ++ ys) → AllBelowBase 256 xs × AllBelowBase 256 ys
below_parts [] ys h = (tt, h)
below_parts (x ∷ xs) ys h = let p = below_parts xs ys h.1 in ((h.0, p.0), p.1)

pub below_append : (xs ys : List ℕ) → AllBelowBase 256 xs → AllBelowBase 256 ys → AllBelowBase 256 (xs ++ ys)
below_append [] ys h g = g
below_append (x ∷ xs) ys h g = (h.0, below_append xs ys h.1 g)

pub number_below : (xs : List ℕ) → AllBelowBase 256 xs → number xs < 2 ^ (8 * length xs)
number_below xs h = let p = pow_bytes (length xs) in rw (← p) (number_lt 256 xs h)

-- equal numbers are encoded by equal bytes
pub number_same : (xs ys : List ℕ) → AllBelowBase 256 xs → AllBelowBase 256 ys → length xs ≡ length ys → number xs ≡ number ys → xs ≡ ys
number_same [] [] h g l e = refl
number_same [] (y ∷ ys) h g l e = absurd (omega arith)
number_same (x ∷ xs) [] h g l e = absurd (omega arith)
number_same (x ∷ xs) (y ∷ ys) h g l e =
    let m : length xs ≡ length ys = omega arith in
    let P = 2 ^ (8 * length ys) in
    let long : 2 ^ (8 * length xs) ≡ P = ap (λ (n : ℕ). 2 ^ (8 * n)) m in
    let a : number xs < P = rw (← long) (number_below xs h.1) in
    let b : number ys < P = number_below ys g.1 in
    let c : x * P + number xs ≡ y * P + number ys =
    ap (λ (p : ℕ). x * p + number xs) (sym long) ∙ sym (number_cons x xs) ∙ e ∙ number_cons y ys in
    let s = same_from_place x (number xs) y (number ys) P a b c in
    let t : xs ≡ ys = number_same xs ys h.1 g.1 m s.1 in
    cc (s.0, t)

-- the bytes of x encode x, as far as they reach
big_is : (xs : List ℕ) → big_from 0 (length xs) xs ≡ number xs
big_is [] = refl
big_is (x ∷ xs) =
    let moved = big_from-cons 0 (length xs) x xs in
    let ih = big_is xs in
    let p = pow_bytes (length xs) in
    let n = number_cons x xs in
    rw (n, moved, ih, p) refl

pub number_of_big : (count : ℕ) (xs : List ℕ) → count ≤ length xs → big_from 0 count xs ≡ number (take count xs)
number_of_big count xs h =
    let l : length (take count xs) ≡ count = length-take-le count xs h in
    let t = big_from-take 0 count count xs (omega arith) in
    let b = big_is (take count xs) in
    let c : big_from 0 count (take count xs) ≡ number (take count xs) = rw l at b in
    sym t ∙ c

pub number_bytes : (n x : ℕ) → number (bytes_high_first n x) ≡ x % 2 ^ (8 * n)
number_bytes n x =
    let l = length-bytes_high_first n x in
    let a = big_is (bytes_high_first n x) in
    let b : big_from 0 n (bytes_high_first n x) ≡ number (bytes_high_first n x) = rw l at a in
    let c = big_from-append n (bytes_high_first n x) [] (omega (arith, l)) in
    let d = big_from-bytes n x [] in
    let p = pow_bytes n in
    sym b ∙ sym c ∙ d ∙ ap (λ (m : ℕ). x % m) p

byte_below : (k x : ℕ) → byte_at k x < 256
byte_below zero x = omega arith
byte_below (suc k) x = omega arith

pub below_bytes : (n x : ℕ) → AllBelowBase 256 (bytes_high_first n x)
below_bytes zero x = tt
below_bytes (suc n) x = (byte_below n x, below_bytes n x)

-- the last bytes of a longer spelling
pub last_bytes : (k d n x : ℕ) → k ≡ d + n → drop d (bytes_high_first k x) ≡ bytes_high_first n x
last_bytes k zero n x h = let e : k ≡ n = omega arith in ap (λ (m : ℕ). bytes_high_first m x) e
last_bytes zero (suc d) n x h = absurd (omega arith)
last_bytes (suc k) (suc d) n x h = last_bytes k d n x (omega arith)

pub last_of_16 : (n x : ℕ) → n ≤ 16 → take (16 - (16 - n)) (drop (16 - n) (bytes_high_first 16 x)) ≡ bytes_high_first n x
last_of_16 n x h =
    let e = last_bytes 16 (16 - n) n x (omega arith) in
    let l = length-bytes_high_first n x in
    let m : 16 - (16 - n) ≡ length (bytes_high_first n x) = omega (arith, l) in
    rw (e, m) (take-length (bytes_high_first n x))
