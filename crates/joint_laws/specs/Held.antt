-- Which dumps report all that the switches of a fabric hold.
use Rattle.std.specs.Prelude.{ℕ, ◌≡◌, List, length, slice_get, Some}
use Rattle.dump_file.specs.Dump.{DumpState}
use Rattle.dump_file.specs.Row.{end_of}
use Rattle.dump_file.specs.Table.{rows_of}
use Rattle.dump_file.specs.declared.table.Table.{Table}
use Rattle.lid_assign.specs.Lids.{guid_in}
use Rattle.fabric_loads.specs.HeldRows.{rows_from}
use Rattle.joint_laws.specs.RouteLaws.{over}
use Rattle.joint_laws.specs.Shown.{Shows}
use Rattle.audit_net.specs.OwnerLaws.{end_port_of}
use Rattle.audit_net.specs.Net.{NetState, table_at}
use Rattle.audit_plan.specs.Plan.{port_of}
use Rattle.smp_wire.specs.FabricState.{FabricState}
use Rattle.smp_wire.specs.declared.node.Node.TheVariants.{Switch}
use Rattle.switch_model.specs.SwitchState.{SwitchState}
use Rattle.topo_file.specs.Topology.{TopologyState}

-- it shows the entries, and by it each LID has the end port whose GUID has it: some row says so, and none says another kind of node
pub record ShowsAll (net : NetState) (lids : List ℕ) (fabric : FabricState) : Type 0 where
  pub entries : Shows net lids fabric
  pub ends : (lid guid : ℕ) → guid_in lids lid ≡ Some guid → end_port_of net lid ≡ port_of net.plan.ends guid

-- ---- one way to do that: the table of each switch has the rows and the top of the one in `own_dump`, at whatever line, and in
-- whatever order the tables stand
pub record HasRows (plan : TopologyState) (lids : List ℕ) (dump : DumpState) (place : ℕ) (held : SwitchState) : Type 0 where
  pub table : Table
  pub there : table_at (over plan dump) place ≡ Some table
  pub rows : table.rows ≡ rows_from plan.nodes held 1 lids
  pub top : table.top ≡ length lids

pub record HasOwnRows (plan : TopologyState) (lids : List ℕ) (fabric : FabricState) (dump : DumpState) : Type 0 where
  pub tables : (place : ℕ) (held : SwitchState) → slice_get fabric.nodes place ≡ Some (Switch held) → HasRows plan lids dump place held
  -- no row says that a LID is another's
  pub ends : (lid guid : ℕ) → end_of lid (rows_of dump.tables) ≡ Some guid → guid_in lids lid ≡ Some guid
