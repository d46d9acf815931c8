-- Rows, in the order of the text.
use Rattle.std.specs.Prelude.{ℕ, Bool, ◌==◌, ◌&&◌, List, position, Option}
use Rattle.sl2vl_file.specs.declared.row.LaneRow.{LaneRow}

-- of this LID and these two ports
abbrev pub is_row_of : (lid input output : ℕ) → LaneRow → Bool
is_row_of lid input output row = (lid == row.lid) && ((input == row.input) && (output == row.output))

-- where the row of this LID and these two ports stands among the rows
abbrev pub place_of : (lid input output : ℕ) → List LaneRow → Option ℕ
place_of lid input output rows = position (is_row_of lid input output) rows
