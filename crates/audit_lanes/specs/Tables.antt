-- Whose the LIDs are, and the VL (virtual lane) that the SL-to-VL mapping table of a switch has for each SL (service level).
use Rattle.std.specs.Prelude.{ℕ, ◌==◌, ◌&&◌, Bool, false, List, filter, find, map, slice_get, if◌then◌else◌, Option, Some, None, is_none}
use Rattle.std.specs.Option.{option_and_then, option_map_or}
use Rattle.fabric_parts.specs.declared.cable.PortRef.{PortRef}
use Rattle.sl2vl_file.specs.declared.row.LaneRow.{LaneRow}
use Rattle.topo_file.specs.Node.{is_switch_at}
use Rattle.audit_net.specs.declared.lids.Aim.{Aim}
use Rattle.audit_net.specs.Net.{NetState}
use Rattle.audit_lanes.specs.declared.hop.Crossing.{Crossing}

-- what is known of LIDs, and the rows of SL-to-VL mapping tables
pub record TablesState : Type 0 where
  pub aims : List Aim
  pub rows : List LaneRow

-- ---- LIDs
-- the end port that has the LID, if the fabric has it
abbrev pub end_of : List Aim → ℕ → Option PortRef
end_of aims lid = option_and_then (λ aim. aim.end) (find (λ aim. aim.lid == lid) aims)

-- the same, if it is not a switch's
abbrev pub if_others : NetState → PortRef → Option PortRef
if_others net end = if is_switch_at net.plan.nodes end.node then None else Some end

abbrev pub others_end : NetState → List Aim → ℕ → Option PortRef
others_end net aims lid = option_and_then (if_others net) (end_of aims lid)

-- the LIDs whose end port the fabric lacks, or that are nobody's
abbrev pub unplaced_lids : List Aim → List ℕ
unplaced_lids aims = map (λ aim. aim.lid) (filter (λ aim. is_none aim.end) aims)

-- ---- a switch, a port by which packets come in, and one by which they leave
abbrev pub is_same_crossing : Crossing → Crossing → Bool
is_same_crossing a b = (a.place == b.place) && ((a.input == b.input) && (a.output == b.output))

-- those of a row: its LID is a switch's, so it is that of port 0
abbrev pub crossing_by : LaneRow → PortRef → Option Crossing
crossing_by row end = if end.port == 0 then Some (record { place = end.node; input = row.input; output = row.output }) else None

abbrev pub crossing_of : List Aim → LaneRow → Option Crossing
crossing_of aims row = option_and_then (crossing_by row) (end_of aims row.lid)

abbrev pub is_row_of : List Aim → Crossing → LaneRow → Bool
is_row_of aims crossing row = option_map_or (is_same_crossing crossing) (crossing_of aims row) false

-- the VL of packets of this SL, by the first such row
abbrev pub vl_of : TablesState → Crossing → (sl : ℕ) → Option ℕ
vl_of tables crossing sl = option_and_then (λ row. slice_get row.lanes sl) (find (is_row_of tables.aims crossing) tables.rows)
