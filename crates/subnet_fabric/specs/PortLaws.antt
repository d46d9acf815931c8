-- What holds of every topology: the statements of the laws of `src/port_laws.rt`.
use Rattle.std.specs.Prelude.{ℕ, ◌≡◌, List}
use Rattle.fabric_parts.specs.declared.cable.PortRef.{PortRef}
use Rattle.fabric_wire.specs.OfTopology.{fabric_of}
use Rattle.lid_assign.specs.Lids.{AreLids, IsInOrder, end_ports}
use Rattle.partition_file.specs.declared.partition.Partition.{Partition}
use Rattle.sweep.specs.EndPorts.{end_port_in}
use Rattle.sweep.specs.Graph.{GraphState}
use Rattle.sweep.specs.OfFabric.{IsLayoutOf}
use Rattle.topo_file.specs.Sound.{IsSound}
use Rattle.topo_file.specs.Topology.{TopologyState}
use Rattle.subnet_fabric.specs.EndPorts.{AreEndPorts}
use Rattle.subnet_fabric.specs.FabricPorts.{AreOfGraph, planned_port_in}
use Rattle.subnet_fabric.specs.Ports.{ports_of}

-- the ports of every sound topology, under whatever partitions, are its end ports, each once and in order of LID
abbrev pub EndPortsStandInOrder : Type 0
EndPortsStandInOrder =
    (partitions : List Partition) (plan : TopologyState) → IsSound plan → AreEndPorts partitions plan (ports_of partitions plan)

-- the end ports of a topology are those of its fabric, with the same GUIDs, names and counts of ports
abbrev pub EndPortsAreTheFabrics : Type 0
EndPortsAreTheFabrics = (plan : TopologyState) (at : PortRef) → end_port_in (fabric_of plan) at ≡ planned_port_in plan at

-- the graph of a topology's fabric has the end ports that are listed, and gives them the LIDs that are listed
abbrev pub SweepsFindWhatIsListed : Type 0
SweepsFindWhatIsListed =
    (partitions : List Partition) (plan : TopologyState) (graph : GraphState) (guids : List ℕ) → IsSound plan
    → IsLayoutOf graph (fabric_of plan)
    → AreLids (end_ports graph) guids → IsInOrder graph.manager guids → AreOfGraph graph guids (ports_of partitions plan)
