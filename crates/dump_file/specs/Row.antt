-- The rows of a table.
use Rattle.std.specs.Prelude.{ℕ, Bool, true, false, not, ◌-◌, ◌==◌, ◌&&◌, nat_le, nat_lt, List, [], ◌∷◌, length, slice_get, count_by, if◌then◌else◌, Option, Some, None, Result, Ok, Err}
use Rattle.std.specs.Option.{option_map_or, option_or}
use Rattle.step_results.specs.Steps.{◌>>=◌}
use Rattle.text_words.specs.Cut.{cut_at}
use Rattle.dump_file.specs.declared.row.Row.{Row}
use Rattle.dump_file.specs.declared.fault.DumpCause.{DumpCause}
use Rattle.dump_file.specs.declared.fault.DumpCause.TheVariants.{EndNotReported}
use Rattle.dump_file.specs.Destination.{destination_in, guid_said}
use Rattle.dump_file.specs.Parts.{cut, lid_in, port_in}

-- ---- `0x0003 003 : (Channel Adapter portguid 0x0000000000000111: 'h1')`
-- a row that ends behind its port says nothing of its LID
abbrev pub cut_behind_port : List ℕ → Option (List ℕ × List ℕ) → Result (List ℕ × List ℕ) DumpCause
cut_behind_port text (Some parts) = Ok parts
cut_behind_port text None = port_in text >>= λ port. Err EndNotReported

unfoldable pub row_in : List ℕ → Result Row DumpCause
row_in text = do
  first ← cut 32 text
  lid ← lid_in first.0
  second ← cut_behind_port first.1 (cut_at (λ byte. byte == 32) first.1)
  port ← port_in second.0
  destination ← destination_in second.1
  Ok (record { lid = lid; port = port; destination = destination })

-- ---- the row's entry is a port; 255 leads nowhere, on purpose
abbrev pub is_valid : Row → Bool
is_valid row = not (row.port == 255)

abbrev pub valid_count : List Row → ℕ
valid_count rows = count_by is_valid rows

-- ---- LIDs rise: this one is above that of the last row, if there is one
abbrev pub is_above : List Row → ℕ → Bool
is_above rows lid = option_map_or (λ row. nat_lt row.lid lid) (slice_get rows (length rows - 1)) true

abbrev pub may_follow : ℕ → List Row → ℕ → Bool
may_follow top rows lid = is_above rows lid && nat_le lid top

-- ---- the end port of a LID, by its GUID: what the first row says that says one
abbrev pub said_of : ℕ → Row → Option ℕ
said_of lid row = if row.lid == lid then guid_said row.destination else None

abbrev pub end_of : ℕ → List Row → Option ℕ
end_of lid [] = None
end_of lid (row ∷ rows) = option_or (said_of lid row) (end_of lid rows)

-- both are GUIDs, and differ
abbrev pub are_two : Option ℕ → Option ℕ → Bool
are_two (Some a) (Some b) = not (a == b)
are_two _ _ = false

-- another end port is said to have the row's LID
abbrev pub is_said_otherwise : List Row → Row → Bool
is_said_otherwise rows row = are_two (end_of row.lid rows) (guid_said row.destination)
