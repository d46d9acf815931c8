-- A fabric with the tables that stand in it, and the entry of a LID in the table of a switch.
use Rattle.std.specs.Prelude.{ℕ, ◌%◌, ◌==◌, ◌&&◌, ◌||◌, nat_le, Bool, List, find, slice_get, if◌then◌else◌, Option, Some, None, is_some}
use Rattle.std.specs.Option.{option_and_then, option_map_or}
use Rattle.dump_file.specs.declared.row.Row.{Row}
use Rattle.dump_file.specs.declared.table.Table.{Table}
use Rattle.dump_file.specs.Dump.{DumpState}
use Rattle.dump_file.specs.Table.{place_of}
use Rattle.topo_file.specs.Node.{ports_at}
use Rattle.audit_net.specs.declared.entry.Entry.{Entry}
use Rattle.audit_net.specs.declared.entry.Entry.TheVariants.{Out, Missing, Unreported}
use Rattle.audit_plan.specs.Plan.{PlanState}

pub record NetState : Type 0 where
  pub plan : PlanState
  pub dump : DumpState

-- ---- the table of a switch
abbrev pub table_of : ℕ → List Table → Option Table
table_of guid tables = option_and_then (λ place. slice_get tables place) (place_of guid tables)

-- that of the node there
abbrev pub table_at : NetState → ℕ → Option Table
table_at net place = option_and_then (λ node. table_of node.guid net.dump.tables) (slice_get net.plan.nodes place)

abbrev pub has_table : NetState → ℕ → Bool
has_table net place = is_some (table_at net place)

-- ---- the entry of a LID
abbrev pub row_of : ℕ → List Row → Option Row
row_of lid rows = find (λ row. row.lid == lid) rows

-- the row of the top is left out if it is a multiple of 64, whatever its entry is
abbrev pub is_left_out : Table → ℕ → Bool
is_left_out table lid = (lid == table.top) && (lid % 64 == 0)

-- and rows of ports from 128 on are left out too
abbrev pub is_wide : (ports : ℕ) → Bool
is_wide ports = nat_le 128 ports

abbrev pub may_lack : (ports : ℕ) → Table → ℕ → Bool
may_lack ports table lid = is_wide ports || is_left_out table lid

-- in the table of a switch of so many ports; 255 leads nowhere, as no row does
abbrev pub entry_by : (ports : ℕ) → Table → ℕ → Option Row → Entry
entry_by ports table lid (Some row) = if row.port == 255 then Missing else Out row.port
entry_by ports table lid None = if may_lack ports table lid then Unreported else Missing

abbrev pub entry_in : (ports lid : ℕ) → Table → Entry
entry_in ports lid table = entry_by ports table lid (row_of lid table.rows)

-- the row of the LID in the table of the switch there
abbrev pub row_at : NetState → ℕ → ℕ → Option Row
row_at net lid place = option_and_then (λ table. row_of lid table.rows) (table_at net place)

-- of a switch of which there is no table nothing is known
abbrev pub entry : NetState → ℕ → ℕ → Entry
entry net lid place = option_map_or (entry_in (ports_at net.plan.nodes place) lid) (table_at net place) Unreported
