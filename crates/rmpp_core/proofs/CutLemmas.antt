-- Bytes that are cut into segments.
use Rattle.std.proofs.Common.{◌≡◌, ℕ, zero, suc, ◌+◌, ◌-◌, ◌*◌, ◌<◌, ◌≤◌, List, [], ◌∷◌, ◌++◌, length, get_or, take, drop, min}
use Rattle.std.proofs.Common.{refl, sym, ◌∙◌, ap, arith, length-drop}
use Rattle.std.specs.Simd.{first_chunks}
use Rattle.std.specs.List.{flat_map}
use Rattle.std.proofs.lemmas.List.{drop-drop, take-append-drop, length-take}
use Rattle.rmpp_core.specs.Laws.{SegmentsAreTheBytes}
use Rattle.rmpp_core.specs.Segments.{segment_count, segment_of}

-- a piece, counted from 0
piece_at : (xs : List ℕ) (size count place : ℕ) → place < count → get_or (first_chunks size count xs) place [] ≡ take size (drop (size * place) xs)
piece_at xs size zero place h = absurd (omega (arith, h))
piece_at xs size (suc count) zero h = let none : size * 0 ≡ 0 = omega arith in rw none refl
piece_at xs size (suc count) (suc place) h =
    let next : size + size * place ≡ size * suc place = omega arith in
    piece_at (drop size xs) size count place (omega (arith, h))
    ∙ ap (λ (rest : List ℕ). take size rest) (drop-drop (size * place) size xs)
    ∙ ap (λ (n : ℕ). take size (drop n xs)) next

take_within : (n : ℕ) (xs : List ℕ) → take (min n (length xs)) xs ≡ take n xs
take_within zero xs = let none : min 0 (length xs) ≡ 0 = omega arith in rw none refl
take_within (suc n) [] = let none : min (suc n) 0 ≡ 0 = omega arith in rw none refl
take_within (suc n) (x ∷ xs) =
    let more : min (suc n) (suc (length xs)) ≡ suc (min n (length xs)) = omega arith in
    rw more (ap (λ (rest : List ℕ). x ∷ rest) (take_within n xs))

pub segment_is : (bytes : List ℕ) (number : ℕ) → 1 ≤ number → number ≤ segment_count bytes → segment_of bytes number ≡ take 200 (drop (200 * (number - 1)) bytes)
unfolding segment_of
segment_is bytes number first last = piece_at bytes 200 (segment_count bytes) (number - 1) (omega (arith, first, last))

-- the bytes from where a segment begins to where it ends, or the bytes do
pub segment_between : (bytes : List ℕ) (number end : ℕ) → 1 ≤ number → number ≤ segment_count bytes
    → end ≡ min (200 * (number - 1) + 200) (length bytes) → take (end - 200 * (number - 1)) (drop (200 * (number - 1)) bytes) ≡ segment_of bytes number
segment_between bytes number end first last e =
    let begin = 200 * (number - 1) in
    let rest = drop begin bytes in
    let d = length-drop begin bytes in
    let size : end - begin ≡ min 200 (length rest) = omega (arith, d, e) in
    ap (λ (n : ℕ). take n rest) size ∙ take_within 200 rest ∙ sym (segment_is bytes number first last)

-- ---- put together
joined : (xs : List ℕ) (count : ℕ) → length xs ≤ 200 * count → flat_map (λ segment. segment) (first_chunks 200 count xs) ≡ xs
joined [] zero h = refl
joined (x ∷ xs) zero h = absurd (omega (arith, h))
joined xs (suc count) h =
    let d = length-drop 200 xs in
    ap (λ (rest : List ℕ). take 200 xs ++ rest) (joined (drop 200 xs) count (omega (arith, h, d))) ∙ take-append-drop 200 xs

counted : (xs : List ℕ) (count : ℕ) → length (first_chunks 200 count xs) ≡ count
counted xs zero = refl
counted xs (suc count) = ap (λ (n : ℕ). suc n) (counted (drop 200 xs) count)

-- how many bytes a segment has
pub segment_length : (bytes : List ℕ) (number : ℕ) → 1 ≤ number → number ≤ segment_count bytes
    → length (segment_of bytes number) ≡ min 200 (length bytes - 200 * (number - 1))
segment_length bytes number first last =
    let begin = 200 * (number - 1) in
    ap (λ (part : List ℕ). length part) (segment_is bytes number first last)
    ∙ length-take 200 (drop begin bytes) ∙ ap (λ (n : ℕ). min 200 n) (length-drop begin bytes)

pub the_segments : SegmentsAreTheBytes
the_segments bytes =
    let count = segment_count bytes in
    let last = segment_length bytes count (omega arith) (omega arith) in
    record {
      joined = joined bytes count (omega arith);
      count = counted bytes count;
      full = λ number first before. omega (arith, segment_length bytes number first (omega (arith, before)), first, before);
      last_narrow = omega (arith, last);
      last_some = λ some. omega (arith, last, some);
    }
