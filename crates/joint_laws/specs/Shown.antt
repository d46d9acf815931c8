-- Which dumps show the linear forwarding tables that the switches of a fabric hold.
use Rattle.std.specs.Prelude.{ℕ, ◌≡◌, ◌≢◌, slice_get, List, Some}
use Rattle.dump_file.specs.Row.{end_of}
use Rattle.dump_file.specs.Table.{rows_of}
use Rattle.dump_file.specs.declared.row.Row.{Row}
use Rattle.dump_file.specs.declared.table.Table.{Table}
use Rattle.lid_assign.specs.Lids.{guid_in}
use Rattle.fabric_loads.specs.HeldRows.{held_entry}
use Rattle.audit_net.specs.Net.{NetState, row_of, table_at}
use Rattle.smp_wire.specs.FabricState.{FabricState}
use Rattle.smp_wire.specs.declared.node.Node.TheVariants.{Switch}
use Rattle.switch_model.specs.SwitchState.{SwitchState}

-- the table of the switch there has a row for the LID, with this entry
pub record HasRow (net : NetState) (place lid entry : ℕ) : Type 0 where
  pub table : Table
  pub row : Row
  pub there : table_at net place ≡ Some table
  pub found : row_of lid table.rows ≡ Some row
  pub is : row.port ≡ entry

-- nodes of the fabric stand in the topology's order, and its end ports have these GUIDs, from LID 1 on. Each entry of a switch
-- has a row, except one of 255, which may have one or none; if the dump says whose a LID is, it says that rightly.
pub record Shows (net : NetState) (lids : List ℕ) (fabric : FabricState) : Type 0 where
  pub rows : (place lid : ℕ) (held : SwitchState) → slice_get fabric.nodes place ≡ Some (Switch held) → held_entry held lid ≢ 255
      → HasRow net place lid (held_entry held lid)
  pub none : (place lid entry : ℕ) (held : SwitchState) → slice_get fabric.nodes place ≡ Some (Switch held) → held_entry held lid ≡ 255
      → HasRow net place lid entry → entry ≡ 255
  pub ends : (lid guid : ℕ) → end_of lid (rows_of net.dump.tables) ≡ Some guid → guid_in lids lid ≡ Some guid
