-- The rows of a table.
use Rattle.std.specs.Prelude.{ℕ, Bool, true, ◌+◌, ◌-◌, ◌*◌, ◌/◌, ◌%◌, ◌==◌, ◌&&◌, ◌||◌, nat_le, nat_lt, List, filter, get_or, length, slice_get, Result, Ok}
use Rattle.std.specs.List.{enumerate_from, list_all, range_with_len}
use Rattle.std.specs.Option.{option_map_or}
use Rattle.step_results.specs.Steps.{◌>>=◌}
use Rattle.text_words.specs.Cut.{cut_at}
use Rattle.mft_file.specs.declared.row.MaskRow.{MaskRow}
use Rattle.mft_file.specs.declared.fault.MftCause.{MftCause}
use Rattle.mft_file.specs.Parts.{mlid_in, only_if}

-- ---- `0xc000        x x x`: behind the MLID and six blanks each port has two places, from port 0 on. The first has an `x` if
-- the port is in the mask, and all others are blank
abbrev pub is_cell : (columns place byte : ℕ) → Bool
is_cell columns place byte =
    (byte == 32) || (nat_lt place 6 || ((byte == 120) && (nat_le 12 place && ((place % 2 == 0) && nat_lt ((place - 12) / 2) columns))))

abbrev pub are_cells : (columns : ℕ) → List ℕ → Bool
are_cells columns text = list_all (λ p. is_cell columns p.0 p.1) (enumerate_from 0 text)

abbrev pub is_set : List ℕ → (port : ℕ) → Bool
is_set text port = get_or text (12 + 2 * port) 32 == 120

-- the port mask, as the numbers of its ports
abbrev pub ports_of : (columns : ℕ) → List ℕ → List ℕ
ports_of columns text = filter (is_set text) (range_with_len 0 columns)

-- what stands before the first blank
abbrev pub word_of : List ℕ → List ℕ
word_of text = option_map_or (λ parts. parts.0) (cut_at (λ byte. byte == 32) text) text

unfoldable pub mlid_of : (columns : ℕ) → List ℕ → Result ℕ MftCause
mlid_of columns text = do
  mlid ← mlid_in (word_of text)
  only_if ((length (word_of text) == 6) && are_cells columns text) mlid

unfoldable pub row_in : (columns : ℕ) → List ℕ → Result MaskRow MftCause
row_in columns text = do
  mlid ← mlid_of columns text
  Ok (record { mlid = mlid; ports = ports_of columns text })

-- ---- MLIDs rise: this one is above that of the last row, if there is one, and in the range of the table
abbrev pub is_above : List MaskRow → ℕ → Bool
is_above rows mlid = option_map_or (λ row. nat_lt row.mlid mlid) (slice_get rows (length rows - 1)) true

abbrev pub is_within : (top mlid : ℕ) → Bool
is_within top mlid = nat_le 49152 mlid && (nat_le mlid 65534 && nat_le mlid top)

abbrev pub may_follow : ℕ → List MaskRow → ℕ → Bool
may_follow top rows mlid = is_above rows mlid && is_within top mlid
