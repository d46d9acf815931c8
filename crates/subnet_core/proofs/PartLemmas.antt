-- Lines out of pieces.
use Rattle.std.proofs.Common.{ℕ, suc, ◌≡◌, ◌≤◌, ◌-◌, ◌∙◌, ap, refl, sym, arith, Bool, true, false, List, [], ◌∷◌, ◌++◌, length, filter, append_assoc, append-nil, nat_lt}
use Rattle.std.specs.List.{onto_first}
use Rattle.std.proofs.lemmas.Bool.Decides.{nat_tests}
use Rattle.std.proofs.lemmas.List.Elements.{filter-append}
use Rattle.text_words.specs.Lines.{ends_in, is_line_end, lines}
use Rattle.subnet_core.specs.Stream.{whole_lines}
use Rattle.subnet_core.specs.StreamSteps.{begun_behind, begun_by_parts, lines_behind, lines_of_parts, rest_of}

-- ---- part by part
abbrev pub PartsGoOn : (begun part : List ℕ) (rest : List (List ℕ)) → Type 0
PartsGoOn begun part rest =
    (lines_of_parts begun (part ∷ rest) ≡ lines_of_parts begun (part ∷ []) ++ lines_of_parts (begun_by_parts begun (part ∷ [])) rest)
    × (begun_by_parts begun (part ∷ rest) ≡ begun_by_parts (begun_by_parts begun (part ∷ [])) rest)

pub parts_on : (begun part : List ℕ) (rest : List (List ℕ)) → PartsGoOn begun part rest
unfolding lines_of_parts begun_by_parts
parts_on begun part rest = by (ends_in 10 part) refl
  where
    by : (b : Bool) → ends_in 10 part ≡ b → PartsGoOn begun part rest
    by true e = rw e (refl, refl)
    by false e = rw e (refl, refl)

-- ---- a piece is the row of its parts
abbrev pub AreSame : (begun : List ℕ) → List ℕ → Type 0
AreSame begun piece =
    (lines_of_parts begun (lines piece) ≡ lines_behind begun piece) × (begun_by_parts begun (lines piece) ≡ begun_behind begun piece)

pub no_parts : (begun : List ℕ) → (lines_of_parts begun [] ≡ []) × (begun_by_parts begun [] ≡ begun)
unfolding lines_of_parts begun_by_parts
no_parts begun = (refl, refl)

-- behind lines that are done
pub part_cut : (all done : List (List ℕ)) (begun part next : List ℕ) (left rest : List (List ℕ)) → all ≡ done ++ lines_of_parts begun left → left ≡ part ∷ rest
    → next ≡ begun_by_parts begun (part ∷ []) → all ≡ (done ++ lines_of_parts begun (part ∷ [])) ++ lines_of_parts next rest
part_cut all done begun part next left rest cut first same =
    cut
    ∙ rw (first, same)
    (ap (λ more. done ++ more) (parts_on begun part rest).0
    ∙ sym (append_assoc done (lines_of_parts begun (part ∷ [])) (lines_of_parts (begun_by_parts begun (part ∷ [])) rest)))

pub part_begun : (all begun part next : List ℕ) (left rest : List (List ℕ)) → all ≡ begun_by_parts begun left → left ≡ part ∷ rest
    → next ≡ begun_by_parts begun (part ∷ []) → all ≡ begun_by_parts next rest
part_begun all begun part next left rest is first same = is ∙ rw (first, same) (parts_on begun part rest).1

pub one_line : (begun part : List ℕ) → length (lines_of_parts begun (part ∷ [])) ≤ 1
unfolding lines_of_parts
one_line begun part = by (ends_in 10 part) refl
  where
    by : (b : Bool) → ends_in 10 part ≡ b → length (lines_of_parts begun (part ∷ [])) ≤ 1
    by true e = rw e (omega arith)
    by false e = rw e (omega arith)

pub whole_part : (begun part : List ℕ) → ends_in 10 part ≡ true
    → (lines_of_parts begun (part ∷ []) ≡ (begun ++ part) ∷ []) × (begun_by_parts begun (part ∷ []) ≡ [])
unfolding lines_of_parts begun_by_parts
whole_part begun part e = rw e (refl, refl)

pub begun_part : (begun part : List ℕ) → ends_in 10 part ≡ false
    → (lines_of_parts begun (part ∷ []) ≡ []) × (begun_by_parts begun (part ∷ []) ≡ begun ++ part)
unfolding lines_of_parts begun_by_parts
begun_part begun part e = rw e (refl, refl)

-- ---- how a line ends
some_bytes : (n : ℕ) → nat_lt 0 (suc n) ≡ true
some_bytes n = grind (arith, nat_tests)

longer_ends : (byte next : ℕ) (rest : List ℕ) → ends_in 10 (byte ∷ next ∷ rest) ≡ ends_in 10 (next ∷ rest)
longer_ends byte next rest =
    let more : suc (suc (length rest)) - 1 ≡ suc (length rest) = omega arith in
    let one : suc (length rest) - 1 ≡ length rest = omega arith in
    rw (more, one, some_bytes (suc (length rest)), some_bytes (length rest)) refl

alone : (byte : ℕ) → ends_in 10 (byte ∷ []) ≡ is_line_end byte
alone byte = refl

-- a byte more before the first part
one_longer : (begun : List ℕ) (byte : ℕ) (parts : List (List ℕ)) → is_line_end byte ≡ false
    → (lines_of_parts begun (onto_first byte parts) ≡ lines_of_parts (begun ++ byte ∷ []) parts)
    × (begun_by_parts begun (onto_first byte parts) ≡ begun_by_parts (begun ++ byte ∷ []) parts)
unfolding lines_of_parts begun_by_parts
one_longer begun byte [] e = rw e (refl, refl)
one_longer begun byte ([] ∷ parts) e = rw (e, append-nil (begun ++ byte ∷ [])) (refl, refl)
one_longer begun byte ((next ∷ part) ∷ parts) e = by (ends_in 10 (byte ∷ next ∷ part)) refl
  where
    by : (b : Bool) → ends_in 10 (byte ∷ next ∷ part) ≡ b
        → (lines_of_parts begun ((byte ∷ next ∷ part) ∷ parts) ≡ lines_of_parts (begun ++ byte ∷ []) ((next ∷ part) ∷ parts))
        × (begun_by_parts begun ((byte ∷ next ∷ part) ∷ parts) ≡ begun_by_parts (begun ++ byte ∷ []) ((next ∷ part) ∷ parts))
    by true t = rw (t, sym (longer_ends byte next part) ∙ t, append_assoc begun (byte ∷ []) (next ∷ part)) (refl, refl)
    by false t = rw (t, sym (longer_ends byte next part) ∙ t, append_assoc begun (byte ∷ []) (next ∷ part)) (refl, refl)

pub same_lines : (begun piece : List ℕ) → AreSame begun piece
unfolding lines_of_parts begun_by_parts lines_behind begun_behind
same_lines begun [] = (refl, refl)
same_lines begun (byte ∷ rest) = by (is_line_end byte) refl (same_lines [] rest) (same_lines (begun ++ byte ∷ []) rest)
  where
    by : (b : Bool) → is_line_end byte ≡ b → AreSame [] rest → AreSame (begun ++ byte ∷ []) rest → AreSame begun (byte ∷ rest)
    by true e fresh more = rw (e, alone byte ∙ e, fresh.0, fresh.1) (refl, refl)
    by false e fresh more =
        let longer = one_longer begun byte (lines rest) e in
        rw e (longer.0 ∙ more.0, longer.1 ∙ more.1)

-- ---- piece by piece
abbrev pub PiecesGoOn : (begun first second : List ℕ) → Type 0
PiecesGoOn begun first second =
    (lines_behind begun (first ++ second) ≡ lines_behind begun first ++ lines_behind (begun_behind begun first) second)
    × (begun_behind begun (first ++ second) ≡ begun_behind (begun_behind begun first) second)

pub pieces_on : (begun first second : List ℕ) → PiecesGoOn begun first second
unfolding lines_behind begun_behind
pieces_on begun [] second = (refl, refl)
pieces_on begun (byte ∷ first) second = by (is_line_end byte) refl (pieces_on [] first second) (pieces_on (begun ++ byte ∷ []) first second)
  where
    by : (b : Bool) → is_line_end byte ≡ b → PiecesGoOn [] first second → PiecesGoOn (begun ++ byte ∷ []) first second
        → PiecesGoOn begun (byte ∷ first) second
    by true e fresh more = rw (e, fresh.0, fresh.1) (refl, refl)
    by false e fresh more = rw (e, more.0, more.1) (refl, refl)

-- ---- the lines of a text
abbrev pub IsOpen : List ℕ → Type 0
IsOpen [] = Unit {0}
IsOpen (byte ∷ bytes) = (is_line_end byte ≡ false) × IsOpen bytes

open_more : (begun : List ℕ) (byte : ℕ) → IsOpen begun → is_line_end byte ≡ false → IsOpen (begun ++ byte ∷ [])
open_more [] byte is e = (e, tt)
open_more (first ∷ begun) byte is e = (is.0, open_more begun byte is.1 e)

first_line : (begun : List ℕ) (byte : ℕ) (rest : List ℕ) → IsOpen begun → is_line_end byte ≡ true
    → lines (begun ++ byte ∷ rest) ≡ (begun ++ byte ∷ []) ∷ lines rest
first_line [] byte rest is e = rw e refl
first_line (front ∷ begun) byte rest is e = rw (is.0, first_line begun byte rest is.1 e) refl

only_line : (begun : List ℕ) → IsOpen begun → lines begun ≡ rest_of begun
only_line [] is = refl
only_line (byte ∷ begun) is = rw (is.0, only_line begun is.1) (by begun)
  where
    by : (rest : List ℕ) → onto_first byte (rest_of rest) ≡ (byte ∷ rest) ∷ []
    by [] = refl
    by (next ∷ rest) = refl

lines_from : (begun text : List ℕ) → IsOpen begun → lines (begun ++ text) ≡ lines_behind begun text ++ rest_of (begun_behind begun text)
unfolding lines_behind begun_behind
lines_from begun [] is = rw append-nil (only_line begun is)
lines_from begun (byte ∷ text) is = by (is_line_end byte) refl (lines_from [] text tt) (lines_from (begun ++ byte ∷ []) text)
  where
    by : (b : Bool) → is_line_end byte ≡ b → lines text ≡ lines_behind [] text ++ rest_of (begun_behind [] text)
        → (IsOpen (begun ++ byte ∷ []) → lines ((begun ++ byte ∷ []) ++ text) ≡ lines_behind (begun ++ byte ∷ []) text ++ rest_of (begun_behind (begun ++ byte ∷ []) text))
        → lines (begun ++ byte ∷ text)
        ≡ lines_behind begun (byte ∷ text) ++ rest_of (begun_behind begun (byte ∷ text))
    by true e fresh more = rw (e, first_line begun byte text is e, fresh) refl
    by false e fresh more = ap lines (sym (append_assoc begun (byte ∷ []) text)) ∙ more (open_more begun byte is e) ∙ rw e refl

pub lines_are : (text : List ℕ) → lines text ≡ lines_behind [] text ++ rest_of (begun_behind [] text)
lines_are text = lines_from [] text tt

-- ---- and which of them are whole
stays_open : (begun text : List ℕ) → IsOpen begun → IsOpen (begun_behind begun text)
unfolding begun_behind
stays_open begun [] is = is
stays_open begun (byte ∷ text) is = by (is_line_end byte) refl (stays_open [] text tt) (stays_open (begun ++ byte ∷ []) text)
  where
    by : (b : Bool) → is_line_end byte ≡ b → IsOpen (begun_behind [] text)
        → (IsOpen (begun ++ byte ∷ []) → IsOpen (begun_behind (begun ++ byte ∷ []) text)) → IsOpen (begun_behind begun (byte ∷ text))
    by true e fresh more = rw e fresh
    by false e fresh more = rw e (more (open_more begun byte is e))

ends_with : (begun : List ℕ) (byte : ℕ) → is_line_end byte ≡ true → ends_in 10 (begun ++ byte ∷ []) ≡ true
ends_with [] byte e = e
ends_with (first ∷ []) byte e = longer_ends first byte [] ∙ e
ends_with (first ∷ second ∷ begun) byte e = longer_ends first second (begun ++ byte ∷ []) ∙ ends_with (second ∷ begun) byte e

open_ends : (begun : List ℕ) → IsOpen begun → ends_in 10 begun ≡ false
open_ends [] is = refl
open_ends (byte ∷ []) is = is.0
open_ends (byte ∷ next ∷ begun) is = longer_ends byte next begun ∙ open_ends (next ∷ begun) is.1

none_whole : (begun : List ℕ) → IsOpen begun → filter (ends_in 10) (rest_of begun) ≡ []
none_whole [] is = refl
none_whole (byte ∷ begun) is = rw (open_ends (byte ∷ begun) is) refl

all_whole : (begun text : List ℕ) → filter (ends_in 10) (lines_behind begun text) ≡ lines_behind begun text
unfolding lines_behind
all_whole begun [] = refl
all_whole begun (byte ∷ text) = by (is_line_end byte) refl (all_whole [] text) (all_whole (begun ++ byte ∷ []) text)
  where
    by : (b : Bool) → is_line_end byte ≡ b → filter (ends_in 10) (lines_behind [] text) ≡ lines_behind [] text
        → filter (ends_in 10) (lines_behind (begun ++ byte ∷ []) text) ≡ lines_behind (begun ++ byte ∷ []) text
        → filter (ends_in 10) (lines_behind begun (byte ∷ text)) ≡ lines_behind begun (byte ∷ text)
    by true e fresh more = rw (e, ends_with begun byte e, fresh) refl
    by false e fresh more = rw (e, more) refl

pub whole_lines_are : (text : List ℕ) → whole_lines text ≡ lines_behind [] text
whole_lines_are text =
    ap (filter (ends_in 10)) (lines_are text)
    ∙ filter-append (ends_in 10) (lines_behind [] text) (rest_of (begun_behind [] text))
    ∙ rw (all_whole [] text, none_whole (begun_behind [] text) (stays_open [] text tt), append-nil (lines_behind [] text)) refl
