-- Texts that are put together are taken apart again.
use Rattle.std.proofs.Common.{ℕ, zero, suc, ◌≡◌, ◌+◌, ◌-◌, ◌<◌, ◌==◌, ◌&&◌, ◌||◌, ◌∙◌, nat_eq, ap, refl, Bool, true, false, not, if◌then◌else◌, List, [], ◌∷◌, ◌++◌, drop, get_or, length, take, Option, Some, None, Result, Ok, arith}
use Rattle.std.specs.Char.{is_ascii_whitespace}
use Rattle.std.specs.List.{ends_with, list_all, list_any, onto_first, position_or_len, starts_with, suffix_len}
use Rattle.std.specs.Option.{ok_or}
use Rattle.std.specs.Str.{bytes_eq}
use Rattle.std.proofs.Math.Seq.{drop-append-add, drop-append_seam, get_or-append_seam, take-append_seam}
use Rattle.std.proofs.lemmas.Bool.{and_parts, eq-eqb, not-true, or_right}
use Rattle.std.proofs.lemmas.List.{get_or-append-add, length-append}
use Rattle.std.proofs.lemmas.List.Folds.{list_any-append}
use Rattle.std.proofs.lemmas.List.Sums.{suffix_len_is}
use Rattle.step_results.specs.Steps.{◌>>=◌}
use Rattle.text_words.specs.Cut.{cut_at, trimmed}
use Rattle.text_words.specs.Lines.{lines}
use Rattle.dump_file.specs.Parts.{before, behind, between, cut, only_if}
use Rattle.dump_file.specs.declared.fault.DumpCause.{DumpCause}
use Rattle.dump_file.specs.declared.fault.DumpCause.TheVariants.{Malformed}

-- ---- lines
abbrev pub is_one_line : List ℕ → Bool
is_one_line text = list_all (λ byte. not (byte == 10)) text

pub first_line : (line rest : List ℕ) → is_one_line line ≡ true → lines (line ++ 10 ∷ rest) ≡ (line ++ 10 ∷ []) ∷ lines rest
first_line [] rest one = refl
first_line (byte ∷ line) rest one =
    let parts = and_parts (not (byte == 10)) _ one in
    ap (λ (b : Bool). if b then (byte ∷ []) ∷ lines (line ++ 10 ∷ rest) else onto_first byte (lines (line ++ 10 ∷ rest))) (not-true (byte == 10) parts.0)
    ∙ ap (onto_first byte) (first_line line rest parts.1)

-- ---- blanks at the end
ends_there : (front : List ℕ) (last : ℕ) (blanks : List ℕ) → is_ascii_whitespace last ≡ false
    → ((k : ℕ) → k < length blanks → is_ascii_whitespace (get_or blanks k 0) ≡ true)
    → trimmed (front ++ last ∷ blanks) ≡ front ++ last ∷ []
ends_there front last blanks plain white =
    let text = front ++ last ∷ blanks in
    let long : length text ≡ length front + suc (length blanks) = length-append front (last ∷ blanks) in
    let count : suffix_len is_ascii_whitespace text ≡ length text - (length front + 1) =
    suffix_len_is is_ascii_whitespace text (length front + 1) 0 (omega (arith, long))
    (λ k from to.
    let there : k ≡ length front + suc (k - (length front + 1)) = omega (arith, from) in
    ap is_ascii_whitespace (ap (λ (n : ℕ). get_or text n 0) there ∙ get_or-append-add front (last ∷ blanks) (suc (k - (length front + 1))) 0)
    ∙ white (k - (length front + 1)) (omega (arith, from, to, long)))
    (λ some.
    let back : length front + 1 - 1 ≡ length front = omega arith in
    ap (λ (n : ℕ). is_ascii_whitespace (get_or text n 0)) back ∙ ap is_ascii_whitespace (get_or-append_seam front last blanks 0) ∙ plain) in
    let kept : length text - suffix_len is_ascii_whitespace text ≡ length front + 1 = omega (arith, count, long) in
    ap (λ (n : ℕ). take n text) kept ∙ taken front
  where
    taken : (some : List ℕ) → take (length some + 1) (some ++ last ∷ blanks) ≡ some ++ last ∷ []
    taken [] = refl
    taken (x ∷ xs) =
        let next : suc (length xs) + 1 ≡ suc (length xs + 1) = omega arith in
        ap (λ (n : ℕ). take n (x ∷ xs ++ last ∷ blanks)) next ∙ ap (λ (more : List ℕ). x ∷ more) (taken xs)

pub trimmed_line : (front : List ℕ) (last : ℕ) → is_ascii_whitespace last ≡ false → trimmed (front ++ last ∷ 10 ∷ []) ≡ front ++ last ∷ []
trimmed_line front last plain = ends_there front last (10 ∷ []) plain white
  where
    white : (k : ℕ) → k < 1 → is_ascii_whitespace (get_or (10 ∷ []) k 0) ≡ true
    white zero low = refl
    white (suc k) low = absurd (omega (arith, low))

pub trimmed_blank : (front : List ℕ) (last : ℕ) → is_ascii_whitespace last ≡ false → trimmed (front ++ last ∷ 32 ∷ 10 ∷ []) ≡ front ++ last ∷ []
trimmed_blank front last plain = ends_there front last (32 ∷ 10 ∷ []) plain white
  where
    white : (k : ℕ) → k < 2 → is_ascii_whitespace (get_or (32 ∷ 10 ∷ []) k 0) ≡ true
    white zero low = refl
    white (suc zero) low = refl
    white (suc (suc k)) low = absurd (omega (arith, low))

-- ---- beginnings and ends
pub same_bytes : (text : List ℕ) → bytes_eq text text ≡ true
same_bytes [] = refl
same_bytes (byte ∷ text) = ap (λ (b : Bool). b && bytes_eq text text) (eq-eqb byte byte refl) ∙ same_bytes text

pub begins : (first rest : List ℕ) → starts_with nat_eq (first ++ rest) first ≡ true
begins first rest = ap (bytes_eq first) (take-append_seam first rest) ∙ same_bytes first

pub behind_first : (first rest : List ℕ) → behind first (first ++ rest) ≡ Ok rest
behind_first first rest =
    ap (λ (b : Bool). only_if b (drop (length first) (first ++ rest))) (begins first rest) ∙ ap (λ (text : List ℕ). Ok text) (drop-append_seam first rest)

back : (front last : List ℕ) → length (front ++ last) - length last ≡ length front
back front last = let long = length-append front last in omega (arith, long)

pub ends : (front last : List ℕ) → ends_with nat_eq (front ++ last) last ≡ true
ends front last =
    ap (λ (n : ℕ). bytes_eq last (drop n (front ++ last))) (back front last) ∙ ap (bytes_eq last) (drop-append_seam front last) ∙ same_bytes last

pub before_last : (front last : List ℕ) → before last (front ++ last) ≡ Ok front
before_last front last =
    ap (λ (b : Bool). only_if b (take (length (front ++ last) - length last) (front ++ last))) (ends front last)
    ∙ ap (λ (n : ℕ). Ok (take n (front ++ last))) (back front last) ∙ ap (λ (text : List ℕ). Ok text) (take-append_seam front last)

pub between_both : (first middle last : List ℕ) → between first last (first ++ (middle ++ last)) ≡ Ok middle
between_both first middle last =
    ap (λ (found : Result (List ℕ) DumpCause). found >>= before last) (behind_first first (middle ++ last)) ∙ before_last middle last

-- ---- what stands before and behind the first such byte
place_found : (wanted : ℕ) (front rest : List ℕ) → list_all (λ byte. not (byte == wanted)) front ≡ true
    → position_or_len (λ byte. byte == wanted) (front ++ wanted ∷ rest) ≡ length front
place_found wanted [] rest none = ap (λ (b : Bool). if not b then 1 + position_or_len (λ byte. byte == wanted) rest else 0) (eq-eqb wanted wanted refl)
place_found wanted (byte ∷ front) rest none =
    let parts = and_parts (not (byte == wanted)) _ none in
    let next : 1 + length front ≡ suc (length front) = omega arith in
    ap (λ (b : Bool). if b then 1 + position_or_len (λ one. one == wanted) (front ++ wanted ∷ rest) else 0) parts.0
    ∙ ap (λ (n : ℕ). 1 + n) (place_found wanted front rest parts.1) ∙ next

pub cut_there : (wanted : ℕ) (front rest : List ℕ) → list_all (λ byte. not (byte == wanted)) front ≡ true
    → cut_at (λ byte. byte == wanted) (front ++ wanted ∷ rest) ≡ Some (front, rest)
cut_there wanted front rest none =
    let text = front ++ wanted ∷ rest in
    let place = place_found wanted front rest none in
    let some : list_any (λ byte. byte == wanted) text ≡ true =
    list_any-append (λ byte. byte == wanted) front (wanted ∷ rest)
    ∙ or_right (list_any (λ byte. byte == wanted) front) _ (ap (λ (b : Bool). b || list_any (λ byte. byte == wanted) rest) (eq-eqb wanted wanted refl)) in
    ap (λ (b : Bool). if b then Some (
      take (position_or_len (λ byte. byte == wanted) text) text,
      drop
          (position_or_len (λ byte. byte == wanted) text + 1) text,
    ) else None) some
    ∙ ap (λ (n : ℕ). Some (take n text, drop (n + 1) text)) place
    ∙ ap (λ (first : List ℕ). Some (first, drop (length front + 1) text)) (take-append_seam front (wanted ∷ rest))
    ∙ ap (λ (later : List ℕ). Some (front, later)) (drop-append-add front (wanted ∷ rest) 1)

pub cut_here : (wanted : ℕ) (front rest : List ℕ) → list_all (λ byte. not (byte == wanted)) front ≡ true
    → cut wanted (front ++ wanted ∷ rest) ≡ Ok (front, rest)
cut_here wanted front rest none = ap (λ (found : Option (List ℕ × List ℕ)). ok_or found Malformed) (cut_there wanted front rest none)
