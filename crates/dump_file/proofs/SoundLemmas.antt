-- What stays so with one more row or table, and so of every dump that was read.
use Rattle.std.proofs.Common.{◌≡◌, ◌∙◌, ap, refl, subst, sym, ℕ, ◌+◌, ◌-◌, true, false, ◌==◌, nat_le, nat_lt, List, [], ◌∷◌, ◌++◌, length, slice_get}
use Rattle.std.proofs.Common.{Option, Some, None, arith}
use Rattle.std.specs.Option.{option_map_or, option_or}
use Rattle.std.proofs.lemmas.Bool.{and_from, and_parts, false≢true}
use Rattle.std.proofs.lemmas.Bool.Decides.{nat_tests}
use Rattle.std.proofs.lemmas.List.{append-nil, flat_map_more}
use Rattle.step_results.proofs.ListLemmas.{list_all_push, list_all_weaker}
use Rattle.dump_file.specs.declared.heading.Heading.{Heading}
use Rattle.dump_file.specs.declared.row.Row.{Row}
use Rattle.dump_file.specs.declared.table.Table.{Table}
use Rattle.dump_file.specs.Destination.{guid_said}
use Rattle.dump_file.specs.Dump.{DraftState, broken_off, closed, heading_of, nothing, rows_so_far, with_rows}
use Rattle.dump_file.specs.Row.{are_two, end_of, is_above, is_said_otherwise, may_follow, said_of}
use Rattle.dump_file.specs.Sound.{IsSoundSoFar, StandUnder, has_its_end, have_one_end, is_end, is_rising, may_take, rise}
use Rattle.dump_file.specs.Table.{rows_of, table_of}

pub nothing_sound : IsSoundSoFar nothing
nothing_sound = record { rising = refl; open_rows = refl; one_end_closed = refl; one_end = refl }

-- ---- LIDs rise
rise_after : (top low : ℕ) (row first : Row) (rest : List Row) → option_map_or (λ last. nat_lt last.lid row.lid) (slice_get (first ∷ rest) (length rest)) true ≡ true
    → nat_le row.lid top ≡ true → rise low top (first ∷ rest) ≡ true → rise low top (first ∷ (rest ++ row ∷ [])) ≡ true
rise_after top low row first [] above within rises =
    let outer = and_parts (nat_le low first.lid) _ rises in
    let inner = and_parts (nat_le first.lid top) _ outer.1 in
    let next : nat_le (first.lid + 1) row.lid ≡ true = grind (arith, nat_tests, above) in
    and_from (nat_le low first.lid) _ outer.0 (and_from (nat_le first.lid top) _ inner.0
    (and_from (nat_le (first.lid + 1) row.lid) _ next (and_from (nat_le row.lid top) _ within refl)))
rise_after top low row first (second ∷ rest) above within rises =
    let outer = and_parts (nat_le low first.lid) _ rises in
    let inner = and_parts (nat_le first.lid top) _ outer.1 in
    and_from (nat_le low first.lid) _ outer.0 (and_from (nat_le first.lid top) _ inner.0
    (rise_after top (first.lid + 1) row second rest above within inner.1))

rise_more : (top : ℕ) (row : Row) (rows : List Row) → may_follow top rows row.lid ≡ true → rise 0 top rows ≡ true → rise 0 top (rows ++ row ∷ []) ≡ true
rise_more top row [] follows rises =
    let parts = and_parts (is_above [] row.lid) _ follows in
    let least : nat_le 0 row.lid ≡ true = grind (arith, nat_tests) in
    and_from (nat_le 0 row.lid) _ least (and_from (nat_le row.lid top) _ parts.1 refl)
rise_more top row (first ∷ rest) follows rises =
    let parts = and_parts (is_above (first ∷ rest) row.lid) _ follows in
    let last : length (first ∷ rest) - 1 ≡ length rest = omega arith in
    let above = sym (ap (λ i. option_map_or (λ r. nat_lt r.lid row.lid) (slice_get (first ∷ rest) i) true) last) ∙ parts.0 in
    rise_after top 0 row first rest above parts.1 rises

-- ---- whose LIDs are
pub or_before : (a b c : Option ℕ) → option_or a (option_or b c) ≡ option_or (option_or a b) c
or_before (Some x) b c = refl
or_before None b c = refl

pub or_none : (a : Option ℕ) → option_or a None ≡ a
or_none (Some x) = refl
or_none None = refl

pub end_more : (lid : ℕ) (rows : List Row) (row : Row) → end_of lid (rows ++ row ∷ []) ≡ option_or (end_of lid rows) (said_of lid row)
end_more lid [] row = or_none (said_of lid row)
end_more lid (first ∷ rest) row = ap (option_or (said_of lid first)) (end_more lid rest row) ∙ or_before (said_of lid first) (end_of lid rest) (said_of lid row)

kept : (guid : ℕ) (was more : Option ℕ) → is_end guid was ≡ true → is_end guid (option_or was more) ≡ true
kept guid (Some other) more is = is
kept guid None more is = cc

stays : (said was more : Option ℕ) → option_map_or (λ guid. is_end guid was) said true ≡ true → option_map_or (λ guid. is_end guid (option_or was more)) said true ≡ true
stays (Some guid) was more is = kept guid was more is
stays None was more is = refl

has_end_still : (rows : List Row) (row one : Row) → has_its_end rows one ≡ true → has_its_end (rows ++ row ∷ []) one ≡ true
has_end_still rows row one has =
    ap (λ e. option_map_or (λ guid. is_end guid e) (guid_said one.destination) true) (end_more one.lid rows row)
    ∙ stays (guid_said one.destination) (end_of one.lid rows) (said_of one.lid row) has

comes : (said was : Option ℕ) → are_two was said ≡ false → option_map_or (λ guid. is_end guid (option_or was said)) said true ≡ true
comes None was apart = refl
comes (Some guid) None apart = grind (arith, nat_tests)
comes (Some guid) (Some other) apart = grind (arith, nat_tests, apart)

pub said_here : (row : Row) → said_of row.lid row ≡ guid_said row.destination
said_here row = let same : (row.lid == row.lid) ≡ true = grind (arith, nat_tests) in rw same refl

has_end_now : (rows : List Row) (row : Row) → is_said_otherwise rows row ≡ false → has_its_end (rows ++ row ∷ []) row ≡ true
has_end_now rows row apart =
    ap (λ e. option_map_or (λ guid. is_end guid e) (guid_said row.destination) true)
    (end_more row.lid rows row ∙ ap (option_or (end_of row.lid rows)) (said_here row))
    ∙ comes (guid_said row.destination) (end_of row.lid rows) apart

one_end_more : (rows : List Row) (row : Row) → have_one_end rows ≡ true → is_said_otherwise rows row ≡ false → have_one_end (rows ++ row ∷ []) ≡ true
one_end_more rows row all apart =
    list_all_push (has_its_end (rows ++ row ∷ [])) rows row
    (list_all_weaker (has_its_end rows) (has_its_end (rows ++ row ∷ [])) (has_end_still rows row) rows all)
    (has_end_now rows row apart)

-- ---- one more row
pub row_joins : (before rows : List Row) (row : Row) → before ++ (rows ++ row ∷ []) ≡ before ++ rows ++ row ∷ []
row_joins [] rows row = refl
row_joins (first ∷ before) rows row = ap (λ rest. first ∷ rest) (row_joins before rows row)

opens : (heading : Option Heading) (rows : List Row) (row : Row) → may_take heading rows row ≡ true → StandUnder heading rows → StandUnder heading (rows ++ row ∷ [])
opens (Some heading) rows row takes stand = rise_more heading.top row rows takes stand
opens None rows row takes stand = absurd (false≢true takes)

pub sound_with_row : (so_far : DraftState) (row : Row) → IsSoundSoFar so_far → may_take (heading_of so_far.stage) so_far.rows row ≡ true
    → is_said_otherwise (rows_so_far so_far) row ≡ false → IsSoundSoFar (with_rows so_far (so_far.rows ++ row ∷ []))
sound_with_row so_far row sound takes apart = record {
  rising = sound.rising;
  open_rows = opens (heading_of so_far.stage) so_far.rows row takes sound.open_rows;
  one_end_closed = sound.one_end_closed;
  one_end = ap have_one_end (row_joins (rows_of so_far.tables) so_far.rows row) ∙ one_end_more (rows_so_far so_far) row sound.one_end apart;
}

-- ---- one more table
pub rows_of_closed : (tables : List Table) (heading : Heading) (rows : List Row) → rows_of (tables ++ table_of heading rows ∷ []) ≡ rows_of tables ++ rows
rows_of_closed tables heading rows = sym (flat_map_more (λ table. table.rows) [] tables (table_of heading rows))

rows_closed : (tables : List Table) (heading : Heading) (rows : List Row) → rows_of (tables ++ table_of heading rows ∷ []) ++ [] ≡ rows_of tables ++ rows
rows_closed tables heading rows = append-nil _ ∙ rows_of_closed tables heading rows

pub sound_closed : (so_far : DraftState) (heading : Heading) → IsSoundSoFar so_far → heading_of so_far.stage ≡ Some heading → IsSoundSoFar (closed so_far heading)
sound_closed so_far heading sound under =
    let rises : rise 0 heading.top so_far.rows ≡ true = subst (λ h. StandUnder h so_far.rows) under sound.open_rows in
    record {
      rising = list_all_push is_rising so_far.tables (table_of heading so_far.rows) sound.rising rises;
      open_rows = refl;
      one_end_closed = ap have_one_end (rows_of_closed so_far.tables heading so_far.rows) ∙ sound.one_end;
      one_end = ap have_one_end (rows_closed so_far.tables heading so_far.rows) ∙ sound.one_end;
    }
