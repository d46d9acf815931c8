-- A field that is whole bytes.
use Rattle.std.proofs.Common.{suc, get_or, drop-cons, ◌∷◌, ◌≡◌, ℕ, Bool, true, false, ◌+◌, ◌*◌, ◌-◌, ◌/◌, ◌^◌, ◌<◌, ◌≤◌, List, [], ◌++◌, length, take}
use Rattle.std.proofs.Common.{drop, refl, sym, ◌∙◌, ap, subst, arith, length-drop, append-nil}
use Rattle.std.specs.Int.{bytes_high_first}
use Rattle.std.specs.Int.Digits.{AllBelowBase}
use Rattle.std.proofs.lemmas.List.{take_rest, set_split}
use Rattle.std.proofs.Math.ListN.{set}
use Rattle.std.proofs.Math.Seq.{drop-length}
use Rattle.std.proofs.Math.Nat.{div-one, div-eq_of_lt, mod-eq_of_lt}
use Rattle.byteorder.specs.Endian.{big_from}
use Rattle.byteorder.specs.Numbers.{length-bytes_high_first}
use Rattle.mad_layout.specs.Bits.{number, bit_of, digits, field, replaced, put_field}
use Rattle.mad_layout.proofs.NumberLemmas.{number_below, number_bytes, number_of_big, number_same, below_bytes, below_parts}
use Rattle.mad_layout.proofs.WindowLemmas.{cut_at, field_from_window, put_is}

window_below : (xs : List ℕ) (first count : ℕ) → AllBelowBase 256 xs → first + count ≤ length xs
    → number (take count (drop first xs)) < 2 ^ (8 * count)
window_below xs first count below within =
    let c = cut_at xs first count within in
    let P : List ℕ → Type 0 = AllBelowBase 256 in
    let parts = below_parts (take first xs) (take count (drop first xs) ++ drop count (drop first xs)) (subst P (sym c.whole) below) in
    let inner = below_parts (take count (drop first xs)) (drop count (drop first xs)) parts.1 in
    rw (ap (λ (n : ℕ). 2 ^ (8 * n)) c.window) at (number_below (take count (drop first xs)) inner.0)

pub field_aligned : (xs : List ℕ) (first count off len : ℕ) → AllBelowBase 256 xs → first + count ≤ length xs
    → off ≡ 8 * first → len ≡ 8 * count → number (take count (drop first xs)) ≡ field xs off len
field_aligned xs first count off len below within starts wide =
    let w = number (take count (drop first xs)) in
    let small : w < 2 ^ len = rw (ap (λ (n : ℕ). 2 ^ n) (sym wide)) at (window_below xs first count below within) in
    let whole : digits w 0 len ≡ w = mod-eq_of_lt (rw (div-one w) small) ∙ div-one w in
    sym whole ∙ field_from_window xs first count off len 0 below within (omega arith) (omega arith)

pub put_aligned : (xs t : List ℕ) (first count off len v : ℕ) → AllBelowBase 256 xs → AllBelowBase 256 t
    → length t ≡ count → first + count ≤ length xs → off ≡ 8 * first → len ≡ 8 * count → number t ≡ v
    → take first xs ++ (t ++ drop count (drop first xs)) ≡ put_field xs off len v
put_aligned xs t first count off len v below fits long within starts wide e =
    let w = number (take count (drop first xs)) in
    let small : w < 2 ^ len = rw (ap (λ (n : ℕ). 2 ^ n) (sym wide)) at (window_below xs first count below within) in
    let none : w / 2 ^ (0 + len) ≡ 0 = let z : 0 + len ≡ len = omega arith in ap (λ (n : ℕ). w / 2 ^ n) z ∙ div-eq_of_lt small in
    let whole : v ≡ replaced w 0 len v = rw none (omega arith) in
    put_is xs t first count off len 0 v below fits long within (omega arith) (omega arith) (e ∙ whole)

pub big_aligned : (xs ys : List ℕ) (first count off len : ℕ) → AllBelowBase 256 xs
    → ys ≡ take (length xs - first) (drop first xs) → first + count ≤ length xs → off ≡ 8 * first → len ≡ 8 * count
    → big_from 0 count ys ≡ field xs off len
big_aligned xs ys first count off len below e within starts wide =
    let d = length-drop first xs in
    ap (λ (zs : List ℕ). big_from 0 count zs) (e ∙ take_rest xs first)
    ∙ number_of_big count (drop first xs) (omega arith)
    ∙ field_aligned xs first count off len below within starts wide

pub put_big : (xs t : List ℕ) (first count off len v : ℕ) → AllBelowBase 256 xs
    → t ≡ bytes_high_first count v ++ drop count (take (length xs - first) (drop first xs))
    → first + count ≤ length xs → off ≡ 8 * first → len ≡ 8 * count → v < 2 ^ len
    → take first xs ++ (t ++ drop (length xs - first) (drop first xs)) ≡ put_field xs off len v
put_big xs t first count off len v below e within starts wide small =
    let r = drop first xs in
    let d = length-drop first xs in
    let none : drop (length xs - first) r ≡ [] = ap (λ (n : ℕ). drop n r) (sym d) ∙ drop-length r in
    let text : t ≡ bytes_high_first count v ++ drop count r =
    e ∙ ap (λ (ys : List ℕ). bytes_high_first count v ++ drop count ys) (take_rest xs first) in
    let value : number (bytes_high_first count v) ≡ v =
    number_bytes count v ∙ mod-eq_of_lt (rw (ap (λ (n : ℕ). 2 ^ n) wide) at small) in
    ap (λ (ys : List ℕ). take first xs ++ (t ++ ys)) none
    ∙ ap (λ (ys : List ℕ). take first xs ++ ys) (append-nil t ∙ text)
    ∙ put_aligned xs (bytes_high_first count v) first count off len v below (below_bytes count v) (length-bytes_high_first count v) within starts wide value

-- bytes whose number a field holds stand there
pub bytes_stand : (xs part : List ℕ) (first count : ℕ) → AllBelowBase 256 xs → AllBelowBase 256 part
    → first + count ≤ length xs → length part ≡ count → number part ≡ field xs (8 * first) (8 * count)
    → take count (drop first xs) ≡ part
bytes_stand xs part first count below fits within long e =
    let c = cut_at xs first count within in
    let P : List ℕ → Type 0 = AllBelowBase 256 in
    let parts = below_parts (take first xs) (take count (drop first xs) ++ drop count (drop first xs)) (subst P (sym c.whole) below) in
    let inner = below_parts (take count (drop first xs)) (drop count (drop first xs)) parts.1 in
    number_same (take count (drop first xs)) part inner.0 fits (c.window ∙ sym long) (field_aligned xs first count (8 * first) (8 * count) below within refl refl ∙ sym e)

pub field_of_part : (xs : List ℕ) (first count off len : ℕ) → AllBelowBase 256 xs → first + count ≤ length xs
    → off + len ≤ 8 * count → field (take count (drop first xs)) off len ≡ field xs (8 * first + off) len
unfolding field
field_of_part xs first count off len below within inside =
    let c = cut_at xs first count within in
    ap (λ (n : ℕ). digits (number (take count (drop first xs))) (8 * n - (off + len)) len) c.window
    ∙ field_from_window xs first count (8 * first + off) len (8 * count - (off + len)) below within (omega arith) (omega arith)

pub same_bit : (a b : Bool) → bit_of a ≡ bit_of b → a ≡ b
same_bit true true e = refl
same_bit false false e = refl
same_bit true false e = absurd (omega arith)
same_bit false true e = absurd (omega arith)

pub byte_is_field : (xs : List ℕ) (k : ℕ) → AllBelowBase 256 xs → k < length xs → get_or xs k 0 ≡ field xs (8 * k) 8
byte_is_field xs k below h =
    let cut : drop k xs ≡ get_or xs k 0 ∷ drop (suc k) xs = drop-cons xs k 0 h in
    let one : number (get_or xs k 0 ∷ []) ≡ get_or xs k 0 = omega arith in
    sym one ∙ ap (λ (ys : List ℕ). number (take 1 ys)) (sym cut) ∙ field_aligned xs k 1 (8 * k) 8 below (omega arith) refl refl

pub byte_is_set : (xs : List ℕ) (k v : ℕ) → AllBelowBase 256 xs → k < length xs → v < 256 → set xs k v ≡ put_field xs (8 * k) 8 v
byte_is_set xs k v below h small =
    let cut : drop k xs ≡ get_or xs k 0 ∷ drop (suc k) xs = drop-cons xs k 0 h in
    let one : number (v ∷ []) ≡ v = omega arith in
    set_split xs k v h
    ∙ ap (λ (ys : List ℕ). take k xs ++ (v ∷ drop 1 ys)) (sym cut)
    ∙ put_aligned xs (v ∷ []) k 1 (8 * k) 8 v below (small, tt) refl (omega arith) refl refl one
