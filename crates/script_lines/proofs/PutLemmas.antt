-- A field that is put where others were put, and into bytes that stand among others.
use Rattle.std.proofs.Common.{◌≡◌, ℕ, ◌+◌, ◌*◌, ◌-◌, ◌/◌, ◌%◌, ◌^◌, ◌<◌, ◌≤◌, ◌==◌, Bool, true, false, not, ◌&&◌, if◌then◌else◌, List, [], ◌∷◌, ◌++◌, length, map, take, drop}
use Rattle.std.proofs.Common.{refl, sym, ◌∙◌, ap, subst, arith, inl, inr, length-append}
use Rattle.std.specs.Int.Digits.{AllBelowBase}
use Rattle.std.specs.List.{list_all}
use Rattle.std.proofs.lemmas.Bool.{and_parts, cases_Bool, eqb-true, false≢true}
use Rattle.std.proofs.lemmas.Nat.{pow-add, shr-shr, shr_high, shr_below, mod_low, mod_below, mul-add-lt, pow_pos}
use Rattle.std.proofs.Math.Nat.{mod-eq_of_lt}
use Rattle.std.proofs.Math.Seq.{drop-append_seam, take-append_seam}
use Rattle.mad_layout.specs.Bits.{number, put_field, replaced}
use Rattle.mad_layout.specs.Layout.{Field, Fits, at, is_free, is_layout, put_all}
use Rattle.mad_layout.proofs.LayoutLemmas.{apart_parts, first_of_layout, length-put_field, put_below}
use Rattle.mad_layout.proofs.NumberLemmas.{below_append, number_below, number_bytes, number_same}
use Rattle.mad_layout.proofs.PutLemmas.{put_swap}
use Rattle.mad_layout.proofs.WindowLemmas.{put_is}

-- ---- the number that bytes with a field encode
replaced_below : (n low len v size : ℕ) → n < 2 ^ size → low + len ≤ size → v < 2 ^ len → replaced n low len v < 2 ^ size
replaced_below n low len v size small within fits =
    let d = size - (low + len) in
    let split : size ≡ d + (low + len) = omega arith in
    let h = n / 2 ^ (low + len) in
    let high : h < 2 ^ d = shr_below n d (low + len) (rw (ap (λ (i : ℕ). 2 ^ i) split) at small) in
    let mid = h * 2 ^ len + v in
    let turn : 2 ^ len * 2 ^ d ≡ 2 ^ (len + d) = sym (pow-add 2 len d) in
    let middle : mid < 2 ^ (len + d) = rw turn at (mul-add-lt h (2 ^ len) v (2 ^ d) high fits) in
    let rest : n % 2 ^ low < 2 ^ low = mod_below n (2 ^ low) (pow_pos low) in
    let up : 2 ^ low * 2 ^ (len + d) ≡ 2 ^ size = let s : low + (len + d) ≡ size = omega arith in sym (pow-add 2 low (len + d)) ∙ ap (λ (i : ℕ). 2 ^ i) s in
    rw up at (mul-add-lt mid (2 ^ low) (n % 2 ^ low) (2 ^ (len + d)) middle rest)

number_put : (xs : List ℕ) (off len v : ℕ) → AllBelowBase 256 xs → off + len ≤ 8 * length xs → v < 2 ^ len
    → number (put_field xs off len v) ≡ replaced (number xs) (8 * length xs - (off + len)) len v
unfolding put_field
number_put xs off len v below within fits =
    number_bytes (length xs) (replaced (number xs) (8 * length xs - (off + len)) len v)
    ∙ mod-eq_of_lt (replaced_below (number xs) (8 * length xs - (off + len)) len v (8 * length xs) (number_below xs below) (omega arith) fits)

-- ---- a field that is put twice
replaced_twice : (n low len u v : ℕ) → u < 2 ^ len → replaced (replaced n low len u) low len v ≡ replaced n low len v
replaced_twice n low len u v fits =
    let rest : n % 2 ^ low < 2 ^ low = mod_below n (2 ^ low) (pow_pos low) in
    let x = replaced n low len u in
    let h = n / 2 ^ (low + len) in
    let up : x / 2 ^ (low + len) ≡ h =
    sym (shr-shr x low len)
    ∙ ap (λ (y : ℕ). y / 2 ^ len) (shr_high (h * 2 ^ len + u) low (n % 2 ^ low) rest)
    ∙ shr_high h len u fits in
    let down : x % 2 ^ low ≡ n % 2 ^ low = mod_low (h * 2 ^ len + u) low (n % 2 ^ low) rest in
    rw (up, down) refl

put_over : (xs : List ℕ) (off len u v : ℕ) → AllBelowBase 256 xs → off + len ≤ 8 * length xs → u < 2 ^ len → v < 2 ^ len
    → put_field (put_field xs off len u) off len v ≡ put_field xs off len v
put_over xs off len u v below within old fits =
    let first = put_field xs off len u in
    let long = length-put_field xs off len u in
    let again = length-put_field first off len v in
    let once = length-put_field xs off len v in
    number_same (put_field first off len v) (put_field xs off len v) (put_below first off len v) (put_below xs off len v) (omega arith)
    (number_put first off len v (put_below xs off len u) (omega (arith, long)) fits
    ∙ ap (λ (n : ℕ). replaced (number first) (8 * n - (off + len)) len v) long
    ∙ ap (λ (n : ℕ). replaced n (8 * length xs - (off + len)) len v) (number_put xs off len u below within old)
    ∙ replaced_twice (number xs) (8 * length xs - (off + len)) len u v old
    ∙ sym (number_put xs off len v below within fits))

-- ---- a field that is put behind those of a layout
put_past : (xs : List ℕ) (ps : List Field) (off len v : ℕ) → is_layout (8 * length xs) ps ≡ true → Fits ps → is_free off len ps ≡ true
    → off + len ≤ 8 * length xs → v < 2 ^ len → put_field (put_all xs ps) off len v ≡ put_all (put_field xs off len v) ps
put_past xs [] off len v layout fits free within narrow = refl
put_past xs (p ∷ ps) off len v layout fits free within narrow =
    let first = first_of_layout (8 * length xs) p ps layout in
    let parts = and_parts _ (is_free off len ps) free in
    let ys = put_field xs p.off p.len p.value in
    let size = length-put_field xs p.off p.len p.value in
    let rest : is_layout (8 * length ys) ps ≡ true = ap (λ (n : ℕ). is_layout (8 * n) ps) size ∙ first.rest in
    put_past ys ps off len v rest fits.1 parts.1 (omega (arith, size)) narrow
    ∙ ap (λ (bytes : List ℕ). put_all bytes ps)
    (put_swap xs p.off p.len p.value off len v first.within within fits.0 narrow (apart_parts off len p parts.0))

-- ---- another value at the place of a layout
-- one field of the layout is there, and no other begins there
unfoldable pub stands : ℕ → ℕ → List Field → Bool
stands off len [] = false
stands off len (p ∷ ps) =
    if p.off == off then (p.len == len) && list_all (λ q. not (q.off == off)) ps else stands off len ps

abbrev valued : ℕ → ℕ → Field → Field
valued off v p = if p.off == off then at p.off p.len v else p

none_valued : (off v : ℕ) (ps : List Field) → list_all (λ q. not (q.off == off)) ps ≡ true → map (valued off v) ps ≡ ps
none_valued off v [] none = refl
none_valued off v (p ∷ ps) none =
    let parts = and_parts (not (p.off == off)) _ none in
    ap (λ (front : Field). front ∷ map (valued off v) ps) (kept (p.off == off) parts.0)
    ∙ ap (λ (rest : List Field). p ∷ rest) (none_valued off v ps parts.1)
  where
    kept : (b : Bool) → not b ≡ true → (if b then at p.off p.len v else p) ≡ p
    kept false is = refl
    kept true is = absurd (false≢true is)

-- where the first field stands there
valued_first : (xs : List ℕ) (p : Field) (ps : List Field) (off len v : ℕ) → AllBelowBase 256 xs → is_layout (8 * length xs) (p ∷ ps) ≡ true
    → Fits (p ∷ ps) → (p.off == off) ≡ true → ((p.len == len) && list_all (λ q. not (q.off == off)) ps) ≡ true → v < 2 ^ len
    → put_all (put_field xs p.off p.len v) (map (valued off v) ps) ≡ put_field (put_all (put_field xs p.off p.len p.value) ps) off len v
valued_first xs p ps off len v below layout fits here alone narrow =
    let first = first_of_layout (8 * length xs) p ps layout in
    let parts = and_parts (p.len == len) _ alone in
    let place : p.off ≡ off = eqb-true p.off off here in
    let wide : p.len ≡ len = eqb-true p.len len parts.0 in
    let small : v < 2 ^ p.len = subst (λ (n : ℕ). v < 2 ^ n) (sym wide) narrow in
    let ys = put_field xs p.off p.len p.value in
    let size = length-put_field xs p.off p.len p.value in
    let rest : is_layout (8 * length ys) ps ≡ true = ap (λ (n : ℕ). is_layout (8 * n) ps) size ∙ first.rest in
    ap (put_all (put_field xs p.off p.len v)) (none_valued off v ps parts.1)
    ∙ ap (λ (bytes : List ℕ). put_all bytes ps) (sym (put_over xs p.off p.len p.value v below first.within fits.0 small))
    ∙ sym (put_past ys ps p.off p.len v rest fits.1 first.free (omega (arith, size, first.within)) small)
    ∙ ap (λ (n : ℕ). put_field (put_all ys ps) n p.len v) place
    ∙ ap (λ (n : ℕ). put_field (put_all ys ps) off n v) wide

pub put_valued : (xs : List ℕ) (ps : List Field) (off len v : ℕ) → AllBelowBase 256 xs → is_layout (8 * length xs) ps ≡ true → Fits ps
    → stands off len ps ≡ true → v < 2 ^ len → put_all xs (map (valued off v) ps) ≡ put_field (put_all xs ps) off len v
unfolding stands
put_valued xs [] off len v below layout fits there narrow = absurd (false≢true there)
put_valued xs (p ∷ ps) off len v below layout fits there narrow = elim (cases_Bool (p.off == off)) [
  | inl here ↦ rw here (valued_first xs p ps off len v below layout fits here (rw here at there) narrow)
  | inr later ↦
      let first = first_of_layout (8 * length xs) p ps layout in
      let size = length-put_field xs p.off p.len p.value in
      rw later (put_valued (put_field xs p.off p.len p.value) ps off len v (put_below xs p.off p.len p.value)
      (ap (λ (n : ℕ). is_layout (8 * n) ps) size ∙ first.rest) fits.1 (rw later at there) narrow)
]

-- ---- a field of bytes that stand among others
pub put_window : (a d c : List ℕ) (off len v : ℕ) → AllBelowBase 256 a → AllBelowBase 256 d → AllBelowBase 256 c → off + len ≤ 8 * length d
    → v < 2 ^ len → put_field (a ++ (d ++ c)) (8 * length a + off) len v ≡ a ++ (put_field d off len v ++ c)
put_window a d c off len v front own back within narrow =
    let xs = a ++ (d ++ c) in
    let t = put_field d off len v in
    let behind : drop (length a) xs ≡ d ++ c = drop-append_seam a (d ++ c) in
    let there : take (length d) (drop (length a) xs) ≡ d = ap (take (length d)) behind ∙ take-append_seam d c in
    let rest : drop (length d) (drop (length a) xs) ≡ c = ap (drop (length d)) behind ∙ drop-append_seam d c in
    let whole = length-append a (d ++ c) in
    let part = length-append d c in
    let value : number t ≡ replaced (number (take (length d) (drop (length a) xs))) (8 * length d - (off + len)) len v =
    number_put d off len v own within narrow ∙ ap (λ (w : List ℕ). replaced (number w) (8 * length d - (off + len)) len v) (sym there) in
    sym (put_is xs t (length a) (length d) (8 * length a + off) len (8 * length d - (off + len)) v
    (below_append a (d ++ c) front (below_append d c own back)) (put_below d off len v) (length-put_field d off len v)
    (omega (arith, whole, part)) (omega arith) (omega arith) value)
    ∙ ap (λ (some : List ℕ). some ++ (t ++ drop (length d) (drop (length a) xs))) (take-append_seam a (d ++ c))
    ∙ ap (λ (some : List ℕ). a ++ (t ++ some)) rest
