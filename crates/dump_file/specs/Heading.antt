-- The first line of a table.
use Rattle.std.specs.Prelude.{ℕ, Bool, ◌||◌, nat_eq, List, codes, Result}
use Rattle.std.specs.List.{starts_with, ends_with}
use Rattle.step_results.specs.Steps.{◌>>=◌}
use Rattle.dump_file.specs.declared.heading.Heading.{Heading}
use Rattle.dump_file.specs.declared.fault.DumpCause.{DumpCause}
use Rattle.dump_file.specs.Parts.{behind, between, cut, guid_in, lid_in, only_if}

-- how the switch was reached: by a directed route, as `dump_fts` does, or by its LID, as `ibroute LID` does
abbrev pub is_by_lid : List ℕ → Bool
is_by_lid text = starts_with nat_eq text (codes "Lid ")

abbrev pub is_way : List ℕ → Bool
is_way text = starts_with nat_eq text (codes "DR path slid ") || is_by_lid text

-- `DR path slid 0; dlid 0; 0,1,1,2 guid 0x0000000000000020 ` or `Lid 4 guid 0x0000000000000020 `: no way has a `g`
unfoldable pub guid_behind_way : List ℕ → Result ℕ DumpCause
guid_behind_way text = do
  parts ← cut 103 text
  word ← between (codes "uid ") (codes " ") parts.1
  guid ← guid_in word
  only_if (is_way parts.0) guid

-- `Unicast lids [0x0-0x6] of switch`, the way and the GUID, and ` (R2):`, the name, whatever bytes it has
unfoldable pub heading_in : ℕ → List ℕ → Result Heading DumpCause
heading_in line text = do
  range ← behind (codes "Unicast lids [0x0-") text
  top ← cut 93 range
  lid ← lid_in top.0
  switch ← behind (codes " of switch ") top.1
  parts ← cut 40 switch
  guid ← guid_behind_way parts.0
  only_if (ends_with nat_eq parts.1 (codes "):")) (record { line = line; guid = guid; top = lid; by_lid = is_by_lid parts.0 })
