-- What a text of `dump_fts -M` reports, or the first line that is at fault.
use Rattle.std.specs.Prelude.{ℕ, Bool, true, false, not, ◌==◌, ◌&&◌, ◌||◌, nat_eq, List, [], ◌∷◌, ◌++◌, length, codes, bytes_eq, if◌then◌else◌, Option, Some, None, is_some, Result, Ok, Err}
use Rattle.std.specs.List.{starts_with}
use Rattle.std.specs.Option.{option_map_or}
use Rattle.step_results.specs.AtLine.{AtLine, after_lines}
use Rattle.step_results.specs.Steps.{◌>>=◌}
use Rattle.text_words.specs.Cut.{cut_at, trimmed}
use Rattle.text_words.specs.Failure.{is_failure}
use Rattle.text_words.specs.Lines.{lines}
use Rattle.text_words.specs.Number.{number_in}
use Rattle.dump_file.specs.Dump.{is_heading as is_unicast_heading, is_multicast_heading, is_passed_over}
use Rattle.mft_file.specs.declared.fault.MftCause.{MftCause}
use Rattle.mft_file.specs.declared.fault.MftCause.TheVariants.{Malformed, DuplicateTable, WrongMlid, WrongCount, Unfinished}
use Rattle.mft_file.specs.declared.heading.Heading.{Heading}
use Rattle.mft_file.specs.declared.row.MaskRow.{MaskRow}
use Rattle.mft_file.specs.declared.stage.MftStage.{MftStage}
use Rattle.mft_file.specs.declared.stage.MftStage.TheVariants.{Between, Titles, LastTitle, Rows, Unicast}
use Rattle.mft_file.specs.declared.table.MaskTable.{MaskTable}
use Rattle.mft_file.specs.Heading.{columns_in, heading_in, is_tens}
use Rattle.mft_file.specs.Parts.{count_in, cut, only_if}
use Rattle.mft_file.specs.Row.{may_follow, row_in}
use Rattle.mft_file.specs.Table.{place_of, table_of}

-- what was dumped: tables in the order of the text
pub record MftState : Type 0 where
  pub tables : List MaskTable

-- what the lines so far report: tables that are whole, what is to come next, and the rows of the table that is open
pub record DraftState : Type 0 where
  pub tables : List MaskTable
  pub stage : MftStage
  pub rows : List MaskRow

-- of the table that is open
abbrev pub heading_of : MftStage → Option Heading
heading_of (Titles heading) = Some heading
heading_of (LastTitle heading) = Some heading
heading_of (Rows heading) = Some heading
heading_of _ = None

-- ---- the heading of a table, of a switch that has none yet
abbrev pub new_heading : DraftState → Heading → Result Heading MftCause
new_heading so_far heading = if is_some (place_of heading.guid so_far.tables) then Err DuplicateTable else Ok heading

unfoldable pub heading_reported : ℕ → DraftState → List ℕ → Result Heading MftCause
heading_reported number so_far text = do
  heading ← heading_in number text
  new_heading so_far heading

abbrev pub at : DraftState → MftStage → DraftState
at so_far stage = record so_far { stage = stage }

abbrev pub with_heading : DraftState → Result Heading MftCause → Result DraftState MftCause
with_heading so_far reported = reported >>= λ heading. Ok (at so_far (Titles heading))

-- ---- its titles
abbrev pub with_columns : DraftState → Heading → Result ℕ MftCause → Result DraftState MftCause
with_columns so_far heading reported = reported >>= λ columns. Ok (at so_far (LastTitle (record heading { columns = columns })))

abbrev pub after_titles : DraftState → Heading → List ℕ → Result DraftState MftCause
after_titles so_far heading text = if is_tens text then Ok so_far else with_columns so_far heading (columns_in text)

abbrev pub if_title : DraftState → Heading → List ℕ → Result DraftState MftCause
if_title so_far heading text = only_if (bytes_eq text (codes " MLid")) (at so_far (Rows heading))

-- ---- a row: its MLID is above those before it, and in the range of the table
unfoldable pub row_reported : DraftState → Heading → List ℕ → Result MaskRow MftCause
row_reported so_far heading text = do
  row ← row_in heading.columns text
  if may_follow heading.top so_far.rows row.mlid then Ok row else Err WrongMlid

abbrev pub with_rows : DraftState → List MaskRow → DraftState
with_rows so_far rows = record so_far { rows = rows }

abbrev pub with_row : DraftState → Result MaskRow MftCause → Result DraftState MftCause
with_row so_far reported = reported >>= λ row. Ok (with_rows so_far (so_far.rows ++ row ∷ []))

-- ---- the last line of a table: `2 valid mlids dumped`, or `1024 mlids dumped` if empty masks have rows too
abbrev pub are_counted : List ℕ → Bool
are_counted words = bytes_eq words (codes "valid mlids dumped") || bytes_eq words (codes "mlids dumped")

unfoldable pub count_reported : List MaskRow → List ℕ → Result ℕ MftCause
count_reported rows text = do
  parts ← cut 32 text
  number ← count_in parts.0
  if not (are_counted parts.1) then Err Malformed else (if number == length rows then Ok number else Err WrongCount)

abbrev pub with_table : DraftState → Heading → Result ℕ MftCause → Result DraftState MftCause
with_table so_far heading reported =
    reported >>= λ count. Ok (record { tables = so_far.tables ++ table_of heading so_far.rows ∷ []; stage = Between; rows = [] })

-- ---- unicast tables are passed over, from their heading to `2 valid lids dumped`
abbrev pub are_lids_counted : List ℕ → Bool
are_lids_counted words = bytes_eq words (codes "valid lids dumped") || bytes_eq words (codes "lids dumped")

-- a number and these words; the count is not looked at
abbrev pub is_unicast_end : List ℕ → Bool
is_unicast_end text =
    option_map_or (λ parts. is_some (number_in parts.0) && are_lids_counted parts.1) (cut_at (λ byte. byte == 32) text) false

-- ---- a line after those before it
-- between tables; `dump_mfts` ends with a warning
abbrev pub after_between : ℕ → DraftState → List ℕ → Result DraftState MftCause
after_between number so_far text =
    if is_multicast_heading text then with_heading so_far (heading_reported number so_far text)
    else (if is_unicast_heading text then Ok (at so_far Unicast)
    else (if starts_with nat_eq text (codes "*** WARNING ***") then Ok so_far
    else Err Malformed))

abbrev pub after_rows : DraftState → Heading → List ℕ → Result DraftState MftCause
after_rows so_far heading text =
    if starts_with nat_eq text (codes "0x") then with_row so_far (row_reported so_far heading text)
    else with_table so_far heading (count_reported so_far.rows text)

abbrev pub after_unicast : DraftState → List ℕ → Result DraftState MftCause
after_unicast so_far text =
    if is_unicast_heading text || is_multicast_heading text then Err Malformed
    else Ok (if is_unicast_end text then at so_far Between else so_far)

abbrev pub after_text : MftStage → ℕ → DraftState → List ℕ → Result DraftState MftCause
after_text Between number so_far text = after_between number so_far text
after_text (Titles heading) number so_far text = after_titles so_far heading text
after_text (LastTitle heading) number so_far text = if_title so_far heading text
after_text (Rows heading) number so_far text = after_rows so_far heading text
after_text Unicast number so_far text = after_unicast so_far text

-- a program that fails says so in place of its answer, or of the rest of it. A table that is open is broken off: neither it nor its rows
-- count, since a table that is cut is none
abbrev pub broken_off : DraftState → DraftState
broken_off so_far = record so_far { stage = Between; rows = [] }

abbrev pub after_words : ℕ → DraftState → List ℕ → Result DraftState MftCause
after_words number so_far text = if is_failure text then Ok (broken_off so_far) else after_text so_far.stage number so_far text

unfoldable pub after_line : ℕ → DraftState → List ℕ → Result DraftState MftCause
after_line number so_far line = if is_passed_over (trimmed line) then Ok so_far else after_words number so_far (trimmed line)

-- ---- the whole text: its last table has ended, and there is one
abbrev pub is_between : MftStage → Bool
is_between Between = true
is_between _ = false

unfoldable pub whole : DraftState → Result MftState (AtLine MftCause)
whole all =
    if is_between all.stage && not (length all.tables == 0) then Ok (record { tables = all.tables })
    else Err (record { line = 0; cause = Unfinished })

-- before the first line nothing is reported
abbrev pub nothing : DraftState
nothing = record { tables = []; stage = Between; rows = [] }

-- what all lines report
abbrev pub reported_by : List ℕ → Result DraftState (AtLine MftCause)
reported_by text = after_lines after_line 1 nothing (lines text)

-- what the text reports, or its first fault
unfoldable pub mfts_of : List ℕ → Result MftState (AtLine MftCause)
mfts_of text = reported_by text >>= whole
