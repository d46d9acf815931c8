-- The dump of the LFTs that the switches of a topology's fabric hold: a table for each switch, in the order of nodes. The nodes of
-- the fabric stand as the topology lists them.
use Rattle.std.specs.Prelude.{ℕ, List, [], ◌∷◌, flat_map, length, slice_get}
use Rattle.std.specs.List.{range_with_len}
use Rattle.std.specs.Option.{option_map_or}
use Rattle.dump_file.specs.Dump.{DumpState}
use Rattle.dump_file.specs.declared.table.Table.{Table}
use Rattle.smp_wire.specs.FabricState.{FabricState}
use Rattle.smp_wire.specs.declared.node.Node.{Node}
use Rattle.smp_wire.specs.declared.node.Node.TheVariants.{Switch, Adapter}
use Rattle.topo_file.specs.Topology.{TopologyState}
use Rattle.topo_file.specs.declared.node.Node.{Node as PlannedNode}
use Rattle.fabric_loads.specs.HeldRows.{table_by}

-- of a node of this GUID, if it is a switch
abbrev pub own_table : List PlannedNode → List ℕ → (guid : ℕ) → Node → List Table
own_table nodes lids guid (Switch held) = table_by nodes lids guid held ∷ []
own_table nodes lids guid (Adapter ports) = []

-- of the node there
abbrev pub held_table : List PlannedNode → List ℕ → List Node → (place guid : ℕ) → List Table
held_table nodes lids held place guid = option_map_or (own_table nodes lids guid) (slice_get held place) []

abbrev pub own_table_at : List PlannedNode → List ℕ → List Node → ℕ → List Table
own_table_at nodes lids held place = option_map_or (λ node. held_table nodes lids held place node.guid) (slice_get nodes place) []

-- end ports have these GUIDs, from LID 1 on
abbrev pub own_dump : TopologyState → List ℕ → FabricState → DumpState
own_dump plan lids fabric = record { tables = flat_map (own_table_at plan.nodes lids fabric.nodes) (range_with_len 0 (length plan.nodes)) }
