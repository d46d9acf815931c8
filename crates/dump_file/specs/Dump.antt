-- What a text of `dump_fts` reports, or the first line that is at fault.
use Rattle.std.specs.Prelude.{ℕ, Bool, true, false, not, ◌==◌, ◌&&◌, ◌||◌, nat_eq, List, [], ◌∷◌, ◌++◌, length, codes, bytes_eq, if◌then◌else◌, Option, Some, None, is_some, Result, Ok, Err}
use Rattle.std.specs.List.{list_any, starts_with}
use Rattle.std.specs.Option.{option_map_or}
use Rattle.step_results.specs.AtLine.{AtLine, after_lines}
use Rattle.step_results.specs.Steps.{◌>>=◌}
use Rattle.text_words.specs.Cut.{cut_at, trimmed}
use Rattle.text_words.specs.Failure.{is_failure}
use Rattle.text_words.specs.Lines.{lines}
use Rattle.text_words.specs.Number.{number_in}
use Rattle.dump_file.specs.declared.fault.DumpCause.{DumpCause}
use Rattle.dump_file.specs.declared.fault.DumpCause.TheVariants.{Malformed, DuplicateTable, WrongLid, WrongCount, Unfinished, TwoEndPorts}
use Rattle.dump_file.specs.declared.heading.Heading.{Heading}
use Rattle.dump_file.specs.declared.row.Row.{Row}
use Rattle.dump_file.specs.declared.stage.Stage.{Stage}
use Rattle.dump_file.specs.declared.stage.Stage.TheVariants.{Between, FirstTitle, SecondTitle, Rows, Multicast}
use Rattle.dump_file.specs.declared.table.Table.{Table}
use Rattle.dump_file.specs.Heading.{heading_in}
use Rattle.dump_file.specs.Parts.{count_in, cut}
use Rattle.dump_file.specs.Row.{is_said_otherwise, may_follow, row_in, valid_count}
use Rattle.dump_file.specs.Table.{latest, place_of, rows_of, table_of}

-- what was dumped: one table of each switch, in the order of the text
pub record DumpState : Type 0 where
  pub tables : List Table

-- what the lines so far report: tables that are whole, the GUIDs of switches that have one by their LID, what is to come next, and
-- the rows of the table that is open
pub record DraftState : Type 0 where
  pub tables : List Table
  pub by_lid : List ℕ
  pub stage : Stage
  pub rows : List Row

-- all rows so far
abbrev pub rows_so_far : DraftState → List Row
rows_so_far so_far = rows_of so_far.tables ++ so_far.rows

-- of the table that is open
abbrev pub heading_of : Stage → Option Heading
heading_of (FirstTitle heading) = Some heading
heading_of (SecondTitle heading) = Some heading
heading_of (Rows heading) = Some heading
heading_of _ = None

-- ---- the heading of a table, of a switch that has none yet, or by its LID of one that has only one by a directed route
abbrev pub is_among : List ℕ → ℕ → Bool
is_among guids guid = list_any (λ other. guid == other) guids

abbrev pub has_one : DraftState → Heading → Bool
has_one so_far heading = if heading.by_lid then is_among so_far.by_lid heading.guid else is_some (place_of heading.guid so_far.tables)

abbrev pub new_heading : DraftState → Heading → Result Heading DumpCause
new_heading so_far heading = if has_one so_far heading then Err DuplicateTable else Ok heading

unfoldable pub heading_reported : ℕ → DraftState → List ℕ → Result Heading DumpCause
heading_reported number so_far text = do
  heading ← heading_in number text
  new_heading so_far heading

abbrev pub with_heading : DraftState → Result Heading DumpCause → Result DraftState DumpCause
with_heading so_far reported = reported >>= λ heading. Ok (record so_far { stage = FirstTitle heading })

-- ---- a row: its LID is above those before it and not above the top, and has no other end port
abbrev pub new_row : DraftState → Heading → Row → Result Row DumpCause
new_row so_far heading row =
    if not (may_follow heading.top so_far.rows row.lid) then Err WrongLid
    else (if is_said_otherwise (rows_so_far so_far) row then Err TwoEndPorts
    else Ok row)

unfoldable pub row_reported : DraftState → Heading → List ℕ → Result Row DumpCause
row_reported so_far heading text = do
  row ← row_in text
  new_row so_far heading row

abbrev pub with_rows : DraftState → List Row → DraftState
with_rows so_far rows = record so_far { rows = rows }

abbrev pub with_row : DraftState → Result Row DumpCause → Result DraftState DumpCause
with_row so_far reported = reported >>= λ row. Ok (with_rows so_far (so_far.rows ++ row ∷ []))

-- ---- the last line of a table: `4 valid lids dumped`, or `7 lids dumped` if entries of 255 have rows too
abbrev pub rows_counted : List Row → List ℕ → Result ℕ DumpCause
rows_counted rows words =
    if bytes_eq words (codes "valid lids dumped") then Ok (valid_count rows)
    else (if bytes_eq words (codes "lids dumped") then Ok (length rows)
    else Err Malformed)

unfoldable pub count_reported : List Row → List ℕ → Result ℕ DumpCause
count_reported rows text = do
  parts ← cut 32 text
  number ← count_in parts.0
  count ← rows_counted rows parts.1
  if number == count then Ok number else Err WrongCount

abbrev pub with_guid : List ℕ → ℕ → List ℕ
with_guid guids guid = if is_among guids guid then guids else guids ++ guid ∷ []

abbrev pub noted_by_lid : List ℕ → Heading → List ℕ
noted_by_lid by_lid heading = if heading.by_lid then with_guid by_lid heading.guid else by_lid

abbrev pub closed : DraftState → Heading → DraftState
closed so_far heading = record {
  tables = so_far.tables ++ table_of heading so_far.rows ∷ [];
  by_lid = noted_by_lid so_far.by_lid heading;
  stage = Between;
  rows = [];
}

abbrev pub with_table : DraftState → Heading → Result ℕ DumpCause → Result DraftState DumpCause
with_table so_far heading reported = reported >>= λ count. Ok (closed so_far heading)

-- ---- multicast tables are passed over, from their heading to `2 valid mlids dumped`
abbrev pub is_multicast_heading : List ℕ → Bool
is_multicast_heading text = starts_with nat_eq text (codes "Multicast mlids [")

abbrev pub is_heading : List ℕ → Bool
is_heading text = starts_with nat_eq text (codes "Unicast lids [")

abbrev pub are_mlids_counted : List ℕ → Bool
are_mlids_counted words = bytes_eq words (codes "valid mlids dumped") || bytes_eq words (codes "mlids dumped")

-- a number and these words; the count is not looked at
abbrev pub is_multicast_end : List ℕ → Bool
is_multicast_end text =
    option_map_or (λ parts. is_some (number_in parts.0) && are_mlids_counted parts.1) (cut_at (λ byte. byte == 32) text) false

-- ---- a line after those before it
abbrev pub at : DraftState → Stage → DraftState
at so_far stage = record so_far { stage = stage }

abbrev pub if_title : Bool → DraftState → Stage → Result DraftState DumpCause
if_title test so_far next = if test then Ok (at so_far next) else Err Malformed

-- between tables; `dump_mfts` ends with a warning
abbrev pub after_between : ℕ → DraftState → List ℕ → Result DraftState DumpCause
after_between number so_far text =
    if is_heading text then with_heading so_far (heading_reported number so_far text)
    else (if is_multicast_heading text then Ok (at so_far Multicast)
    else (if starts_with nat_eq text (codes "*** WARNING ***") then Ok so_far
    else Err Malformed))

abbrev pub after_rows : DraftState → Heading → List ℕ → Result DraftState DumpCause
after_rows so_far heading text =
    if starts_with nat_eq text (codes "0x") then with_row so_far (row_reported so_far heading text)
    else with_table so_far heading (count_reported so_far.rows text)

abbrev pub after_multicast : DraftState → List ℕ → Result DraftState DumpCause
after_multicast so_far text =
    if is_heading text || is_multicast_heading text then Err Malformed
    else Ok (if is_multicast_end text then at so_far Between else so_far)

abbrev pub after_text : Stage → ℕ → DraftState → List ℕ → Result DraftState DumpCause
after_text Between number so_far text = after_between number so_far text
after_text (FirstTitle heading) number so_far text = if_title (bytes_eq text (codes "  Lid  Out   Destination")) so_far (SecondTitle heading)
after_text (SecondTitle heading) number so_far text = if_title (bytes_eq text (codes "       Port     Info")) so_far (Rows heading)
after_text (Rows heading) number so_far text = after_rows so_far heading text
after_text Multicast number so_far text = after_multicast so_far text

-- a line with nothing on it, or one that begins with `#`, is passed over
abbrev pub is_passed_over : List ℕ → Bool
is_passed_over text = (length text == 0) || starts_with nat_eq text (codes "#")

-- a program that fails says so in place of its answer, or of the rest of it. A table that is open is broken off: neither it nor its rows
-- count, since a table that is cut is none
abbrev pub broken_off : DraftState → DraftState
broken_off so_far = record so_far { stage = Between; rows = [] }

abbrev pub after_words : ℕ → DraftState → List ℕ → Result DraftState DumpCause
after_words number so_far text = if is_failure text then Ok (broken_off so_far) else after_text so_far.stage number so_far text

unfoldable pub after_line : ℕ → DraftState → List ℕ → Result DraftState DumpCause
after_line number so_far line = if is_passed_over (trimmed line) then Ok so_far else after_words number so_far (trimmed line)

-- ---- the whole text: its last table has ended, and there is one. A table by the LID of its switch has rows that one by a directed
-- route may lack, so it counts in the place of that
abbrev pub is_between : Stage → Bool
is_between Between = true
is_between _ = false

unfoldable pub whole : DraftState → Result DumpState (AtLine DumpCause)
whole all =
    if is_between all.stage && not (length all.tables == 0) then Ok (record { tables = latest all.tables })
    else Err (record { line = 0; cause = Unfinished })

-- before the first line nothing is reported
abbrev pub nothing : DraftState
nothing = record { tables = []; by_lid = []; stage = Between; rows = [] }

-- what all lines report
abbrev pub reported_by : List ℕ → Result DraftState (AtLine DumpCause)
reported_by text = after_lines after_line 1 nothing (lines text)

-- what the text reports, or its first fault
unfoldable pub dump_of : List ℕ → Result DumpState (AtLine DumpCause)
dump_of text = reported_by text >>= whole
