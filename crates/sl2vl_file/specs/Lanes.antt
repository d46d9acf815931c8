-- What a text of `smpquery sl2vl` and `saquery PR` reports, or the first line that is at fault.
use Rattle.std.specs.Prelude.{ℕ, Bool, true, false, ◌==◌, ◌&&◌, ◌||◌, nat_eq, List, [], ◌∷◌, ◌++◌, length, codes, bytes_eq, if◌then◌else◌, Option, Some, None, is_some, Result, Ok, Err}
use Rattle.std.specs.List.{starts_with}
use Rattle.step_results.specs.AtLine.{AtLine, after_lines}
use Rattle.step_results.specs.Steps.{◌>>=◌}
use Rattle.text_words.specs.Failure.{is_failure}
use Rattle.text_words.specs.Lines.{lines}
use Rattle.dump_file.specs.Dump.{is_passed_over}
use Rattle.text_words.specs.Cut.{trimmed}
use Rattle.sl2vl_file.specs.declared.fault.LanesCause.{LanesCause}
use Rattle.sl2vl_file.specs.declared.fault.LanesCause.TheVariants.{Malformed, DuplicateRow, DirectedRoute, MissingField, Empty}
use Rattle.sl2vl_file.specs.declared.path.PathFields.{PathFields}
use Rattle.sl2vl_file.specs.declared.path.PathSl.{PathSl}
use Rattle.sl2vl_file.specs.declared.row.LaneRow.{LaneRow}
use Rattle.sl2vl_file.specs.declared.stage.Stage.{Stage}
use Rattle.sl2vl_file.specs.declared.stage.Stage.TheVariants.{Outside, Table, Record, Lacking}
use Rattle.sl2vl_file.specs.Parts.{behind, lid_in}
use Rattle.sl2vl_file.specs.Path.{fields_reported, no_fields, path_of}
use Rattle.sl2vl_file.specs.Row.{row_in}
use Rattle.sl2vl_file.specs.Rows.{place_of}

-- what was printed: the rows of all tables and the path records, each in the order of the text
pub record LanesState : Type 0 where
  pub rows : List LaneRow
  pub paths : List PathSl

-- what the lines so far report: rows, records that have ended, and what may come next
pub record DraftState : Type 0 where
  pub rows : List LaneRow
  pub paths : List PathSl
  pub stage : Stage

abbrev pub at : DraftState → Stage → DraftState
at so_far stage = record so_far { stage = stage }

-- ---- a record ends at the next heading, or at the end of the text. If it lacks a field nothing behind it is judged
abbrev pub with_path : DraftState → (line : ℕ) → Option PathSl → DraftState
with_path so_far line (Some path) = record so_far { paths = so_far.paths ++ path ∷ []; stage = Outside }
with_path so_far line None = at so_far (Lacking line)

abbrev pub closed_at : Stage → DraftState → DraftState
closed_at (Record fields) so_far = with_path so_far fields.line (path_of fields)
closed_at _ so_far = so_far

abbrev pub closed : DraftState → DraftState
closed so_far = closed_at so_far.stage so_far

abbrev pub is_lacking : Stage → Bool
is_lacking (Lacking line) = true
is_lacking _ = false

-- ---- a heading
abbrev pub opened : DraftState → Result Stage LanesCause → Result DraftState LanesCause
opened so_far heading = if is_lacking so_far.stage then Ok so_far else (heading >>= λ stage. Ok (at so_far stage))

-- `# SL2VL table: Lid 18`. A table that was asked for by a directed route does not say the LID
abbrev pub is_table_heading : List ℕ → Bool
is_table_heading text = starts_with nat_eq text (codes "# SL2VL table:")

unfoldable pub table_by_lid : List ℕ → Result Stage LanesCause
table_by_lid text = do
  word ← behind (codes "# SL2VL table: Lid ") text
  lid ← lid_in word
  Ok (Table lid)

abbrev pub table_in : List ℕ → Result Stage LanesCause
table_in text = if starts_with nat_eq text (codes "# SL2VL table: DR path ") then Err DirectedRoute else table_by_lid text

abbrev pub is_record_heading : List ℕ → Bool
is_record_heading text = bytes_eq text (codes "PathRecord dump:")

-- ---- a row of a table: its LID has no other for these ports
unfoldable pub row_reported : (number lid : ℕ) → List LaneRow → List ℕ → Result LaneRow LanesCause
row_reported number lid rows text = do
  row ← row_in number lid text
  if is_some (place_of row.lid row.input row.output rows) then Err DuplicateRow else Ok row

abbrev pub with_row : DraftState → Result LaneRow LanesCause → Result DraftState LanesCause
with_row so_far reported = reported >>= λ row. Ok (record so_far { rows = so_far.rows ++ row ∷ [] })

-- ---- a field of a record
abbrev pub with_fields : DraftState → Result PathFields LanesCause → Result DraftState LanesCause
with_fields so_far reported = reported >>= λ fields. Ok (at so_far (Record fields))

-- ---- a line after those before it
abbrev pub after_text : Stage → ℕ → DraftState → List ℕ → Result DraftState LanesCause
after_text (Table lid) number so_far text = with_row so_far (row_reported number lid so_far.rows text)
after_text (Record fields) number so_far text = with_fields so_far (fields_reported fields text)
after_text _ number so_far text = Err Malformed

-- a query that fails says so in place of its answer: that is passed over, except in a record that still lacks a field
abbrev pub has_all : Stage → Bool
has_all (Record fields) = is_some (path_of fields)
has_all _ = true

abbrev pub is_unanswered : Stage → List ℕ → Bool
is_unanswered stage text = is_failure text && has_all stage

-- so are lines with nothing on them, and other lines that begin with `#`
unfoldable pub after_judged : ℕ → DraftState → List ℕ → Result DraftState LanesCause
after_judged number so_far text =
    if is_table_heading text then opened (closed so_far) (table_in text)
    else (if is_record_heading text then opened (closed so_far) (Ok (Record (no_fields number)))
    else (if is_passed_over text || is_unanswered so_far.stage text then Ok so_far
    else after_text so_far.stage number so_far text))

unfoldable pub after_line : ℕ → DraftState → List ℕ → Result DraftState LanesCause
after_line number so_far line = if is_lacking so_far.stage then Ok so_far else after_judged number so_far (trimmed line)

-- ---- the whole text: its last record lacks nothing, and there is a row or a record
abbrev pub whole_at : Stage → DraftState → Result LanesState (AtLine LanesCause)
whole_at (Lacking line) all = Err (record { line = line; cause = MissingField })
whole_at _ all =
    if (length all.rows == 0) && (length all.paths == 0) then Err (record { line = 0; cause = Empty })
    else Ok (record { rows = all.rows; paths = all.paths })

unfoldable pub whole : DraftState → Result LanesState (AtLine LanesCause)
whole all = whole_at (closed all).stage (closed all)

-- before the first line nothing is reported
abbrev pub nothing : DraftState
nothing = record { rows = []; paths = []; stage = Outside }

-- what all lines report
abbrev pub reported_by : List ℕ → Result DraftState (AtLine LanesCause)
reported_by text = after_lines after_line 1 nothing (lines text)

-- what the text reports, or its first fault
unfoldable pub lanes_of : List ℕ → Result LanesState (AtLine LanesCause)
lanes_of text = reported_by text >>= whole
