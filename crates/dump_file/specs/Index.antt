-- Which end port each LID has, and which switches have a table, looked up.
use Rattle.std.specs.Prelude.{ℕ, ◌≡◌, ◌==◌, List, slice_get, Option, None, unwrap_or}
use Rattle.std.specs.List.{list_any}
use Rattle.dump_file.specs.declared.row.Row.{Row}
use Rattle.dump_file.specs.declared.table.Table.{Table}
use Rattle.dump_file.specs.Row.{end_of}

-- the end port that stands at the place of the LID
abbrev pub end_known : List (Option ℕ) → ℕ → Option ℕ
end_known ends lid = unwrap_or (slice_get ends lid) None

-- the list has the end port of each LID of which these rows say one
abbrev pub KnowsEnds : List (Option ℕ) → List Row → Type 0
KnowsEnds ends rows = (lid : ℕ) → end_known ends lid ≡ end_of lid rows

-- ---- these are the GUIDs of the switches that have a table
abbrev pub KnowsSwitches : List ℕ → List Table → Type 0
KnowsSwitches guids tables = (guid : ℕ) → list_any (λ other. guid == other) guids ≡ list_any (λ table. guid == table.guid) tables
