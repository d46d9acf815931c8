-- Lines that are joined, words that end before a byte, and the bytes of numbers: of any texts.
use Rattle.std.proofs.Common.{ℕ, zero, suc, ◌≡◌, ◌==◌, ◌/◌, ◌%◌, ◌∙◌, ap, refl, sym, arith, append_assoc, Bool, true, false, not}
use Rattle.std.proofs.Common.{List, [], ◌∷◌, ◌++◌, decimal, drop, filter, flat_map, get_or, length, map, nat_eq, nat_le, nat_lt, slice_index, take}
use Rattle.std.proofs.Math.Seq.{take-append_seam}
use Rattle.std.proofs.lemmas.Bool.{and_from, and_parts, eqb-true, false≢true}
use Rattle.std.proofs.lemmas.Bool.Decides.{nat_tests}
use Rattle.std.proofs.lemmas.List.{take-append-drop}
use Rattle.std.proofs.lemmas.Slice.Eq.{bytes_eq-Decides}
use Rattle.std.specs.Fmt.{digit_glyph, digits, digits_onto}
use Rattle.std.specs.List.{list_all, starts_with}
use Rattle.hex.specs.Hex.{encode_lower, encode_with, lower_digits}
use Rattle.step_results.proofs.ListLemmas.{list_all_weaker}
use Rattle.text_words.specs.Lines.{is_line_end, lines}

-- ---- lines that are joined are the lines of the text
abbrev pub is_inner : ℕ → Bool
is_inner byte = not (is_line_end byte)

line_ended : (line rest : List ℕ) → list_all is_inner line ≡ true → lines (line ++ 10 ∷ rest) ≡ (line ++ 10 ∷ []) ∷ lines rest
line_ended [] rest inner = refl
line_ended (byte ∷ line) rest inner = by (is_line_end byte) refl (line_ended line rest)
  where
    by : (b : Bool) → is_line_end byte ≡ b → (list_all is_inner line ≡ true → lines (line ++ 10 ∷ rest) ≡ (line ++ 10 ∷ []) ∷ lines rest)
        → lines ((byte ∷ line) ++ 10 ∷ rest) ≡ ((byte ∷ line) ++ 10 ∷ []) ∷ lines rest
    by true e later = absurd (let none : false ≡ true = rw e at inner in cc)
    by false e later = rw (e, later (rw e at inner)) refl

pub lines_of_all : {E : Type 0} (line within : E → List ℕ) → ((e : E) → line e ≡ within e ++ 10 ∷ []) → ((e : E) → list_all is_inner (within e) ≡ true)
    → (es : List E) → lines (flat_map line es) ≡ map line es
lines_of_all line within ended inner [] = refl
lines_of_all line within ended inner (e ∷ es) =
    let rest = flat_map line es in
    ap lines (ap (λ (text : List ℕ). text ++ rest) (ended e) ∙ append_assoc (within e) (10 ∷ []) rest)
    ∙ line_ended (within e) rest (inner e)
    ∙ ap (λ (text : List ℕ). text ∷ lines rest) (sym (ended e))
    ∙ ap (λ (texts : List (List ℕ)). line e ∷ texts) (lines_of_all line within ended inner es)

-- a filter passes a map
pub kept_of_all : {E : Type 0} (line : E → List ℕ) (test : List ℕ → Bool) (own : E → Bool) → ((e : E) → test (line e) ≡ own e)
    → (es : List E) → filter test (map line es) ≡ map line (filter own es)
kept_of_all line test own same [] = refl
kept_of_all line test own same (e ∷ es) = by (own e) refl (kept_of_all line test own same es)
  where
    by : (b : Bool) → own e ≡ b → filter test (map line es) ≡ map line (filter own es)
        → filter test (map line (e ∷ es)) ≡ map line (filter own (e ∷ es))
    by true is later = rw (same e ∙ is, is, later) refl
    by false is later = rw (same e ∙ is, is, later) refl

-- ---- words of which each ends before a byte that stands in neither
pub same_word : (test : ℕ → Bool) (c : ℕ) → test c ≡ false → (a b x y : List ℕ) → list_all test a ≡ true → list_all test b ≡ true
    → a ++ c ∷ x ≡ b ++ c ∷ y → (a ≡ b) × (x ≡ y)
same_word test c none [] [] x y inner within same = (refl, cc)
same_word test c none [] (byte ∷ b) x y inner within same =
    let is : c ≡ byte = cc in
    absurd (false≢true (sym none ∙ ap test is ∙ (and_parts (test byte) (list_all test b) within).0))
same_word test c none (byte ∷ a) [] x y inner within same =
    let is : byte ≡ c = cc in
    absurd (false≢true (sym none ∙ ap test (sym is) ∙ (and_parts (test byte) (list_all test a) inner).0))
same_word test c none (byte ∷ a) (other ∷ b) x y inner within same =
    let is : byte ≡ other = cc in
    let rest : a ++ c ∷ x ≡ b ++ c ∷ y = cc in
    let words = same_word test c none a b x y (and_parts (test byte) (list_all test a) inner).1 (and_parts (test other) (list_all test b) within).1 rest in
    (let first = words.0 in rw (is, first) refl, words.1)

-- ---- what begins with a text
pub begins : (needle rest : List ℕ) → starts_with nat_eq (needle ++ rest) needle ≡ true
begins needle rest = (bytes_eq-Decides needle (take (length needle) (needle ++ rest))).1 (sym (take-append_seam needle rest))

pub begun : (needle text : List ℕ) → starts_with nat_eq text needle ≡ true → text ≡ needle ++ drop (length needle) text
begun needle text so =
    sym (take-append-drop (length needle) text)
    ∙ ap (λ (first : List ℕ). first ++ drop (length needle) text) (sym ((bytes_eq-Decides needle (take (length needle) text)).0 so))

-- ---- which bytes stand in names and in numbers
is_other : (p : ℕ → Bool) (c : ℕ) → p c ≡ false → (byte : ℕ) → p byte ≡ true → not (byte == c) ≡ true
is_other p c none byte so = by (byte == c) refl
  where
    by : (b : Bool) → (byte == c) ≡ b → not (byte == c) ≡ true
    by true e = absurd (false≢true (sym none ∙ ap p (sym (eqb-true byte c e)) ∙ so))
    by false e = rw e refl

pub all_other : (p : ℕ → Bool) (c : ℕ) → p c ≡ false → (text : List ℕ) → list_all p text ≡ true → list_all (λ byte. not (byte == c)) text ≡ true
all_other p c none text all = list_all_weaker p (λ byte. not (byte == c)) (is_other p c none) text all

high_glyph : (d : ℕ) → nat_le 48 (digit_glyph false d) ≡ true
high_glyph d = by (nat_lt d 10) refl
  where
    by : (b : Bool) → nat_lt d 10 ≡ b → nat_le 48 (digit_glyph false d) ≡ true
    by true e = rw e (grind (arith, nat_tests))
    by false e = rw e (grind (arith, nat_tests))

high_digits : (k n : ℕ) (text : List ℕ) → list_all (nat_le 48) text ≡ true → list_all (nat_le 48) (digits_onto k 10 false n text) ≡ true
high_digits zero n text all = all
high_digits (suc k) n text all = by (n / 10 == 0) refl (high_digits k (n / 10) (digit_glyph false (n % 10) ∷ text) more)
  where
    more : list_all (nat_le 48) (digit_glyph false (n % 10) ∷ text) ≡ true
    more = and_from (nat_le 48 (digit_glyph false (n % 10))) _ (high_glyph (n % 10)) all

    by : (b : Bool) → (n / 10 == 0) ≡ b → list_all (nat_le 48) (digits_onto k 10 false (n / 10) (digit_glyph false (n % 10) ∷ text)) ≡ true
        → list_all (nat_le 48) (digits_onto (suc k) 10 false n text) ≡ true
    by true e later = rw e more
    by false e later = rw e later

pub high_decimal : (n : ℕ) → list_all (nat_le 48) (decimal n) ≡ true
unfolding digits
high_decimal n = high_digits 64 n [] refl

of_table : (p : ℕ → Bool) (table : List ℕ) (k : ℕ) → list_all p table ≡ true → p 0 ≡ true → p (get_or table k 0) ≡ true
of_table p [] k all zero_so = zero_so
of_table p (byte ∷ table) zero all zero_so = (and_parts (p byte) (list_all p table) all).0
of_table p (byte ∷ table) (suc k) all zero_so = of_table p table k (and_parts (p byte) (list_all p table) all).1 zero_so

pub inner_hex : (bytes : List ℕ) → list_all is_inner (encode_lower bytes) ≡ true
unfolding encode_with
inner_hex [] = refl
inner_hex (byte ∷ bytes) =
    and_from (is_inner (slice_index lower_digits (byte / 16))) _ (of_table is_inner lower_digits (byte / 16) refl refl)
    (and_from (is_inner (slice_index lower_digits (byte % 16))) _ (of_table is_inner lower_digits (byte % 16) refl refl) (inner_hex bytes))
