-- The dump of the linear forwarding tables that the switches of a fabric hold, as it is read back: a table for each switch, in the
-- order of nodes, and in it a row for each LID that leads somewhere.
use Rattle.std.specs.Prelude.{ℕ, List, [], ◌∷◌, flat_map}
use Rattle.dump_file.specs.Dump.{DumpState}
use Rattle.dump_file.specs.declared.table.Table.{Table}
use Rattle.smp_wire.specs.FabricState.{FabricState}
use Rattle.smp_wire.specs.declared.node.Node.{Node}
use Rattle.smp_wire.specs.declared.node.Node.TheVariants.{Switch, Adapter}
use Rattle.switch_model.specs.SwitchState.{SwitchState}
use Rattle.topo_file.specs.Topology.{TopologyState}
use Rattle.topo_file.specs.declared.node.Node.{Node as PlannedNode}
use Rattle.fabric_loads.specs.HeldRows.{table_by}

-- ---- tables
abbrev pub table_for : List PlannedNode → List ℕ → SwitchState → Table
table_for nodes lids held = table_by nodes lids held.node_guid held

abbrev pub tables_for : List PlannedNode → List ℕ → Node → List Table
tables_for nodes lids (Switch held) = table_for nodes lids held ∷ []
tables_for nodes lids (Adapter ports) = []

-- of a topology's fabric, whose end ports have these GUIDs, from LID 1 on
abbrev pub dump_of : TopologyState → List ℕ → FabricState → DumpState
dump_of plan lids fabric = record { tables = flat_map (tables_for plan.nodes lids) fabric.nodes }
