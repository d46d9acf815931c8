-- The end ports of a topology as the agents of its fabric show them, and beside them what a sweep of that fabric finds.
use Rattle.std.specs.Prelude.{ℕ, ◌≡◌, if◌then◌else◌, List, map, Option, Some, None}
use Rattle.std.specs.List.{All, Contains, enumerate_from}
use Rattle.fabric_parts.specs.NodeType.{is_switch_type}
use Rattle.fabric_parts.specs.declared.cable.PortRef.{PortRef}
use Rattle.fabric_wire.specs.OfTopology.{named}
use Rattle.subnet_model.specs.declared.subnet_port.SubnetPort.{SubnetPort}
use Rattle.sweep.specs.EndPorts.{FabricPort, end_ports_in}
use Rattle.sweep.specs.Graph.{GraphState}
use Rattle.topo_file.specs.Node.{guid_at, is_switch_at, name_at, port_guid_at, ports_at}
use Rattle.topo_file.specs.Topology.{TopologyState}
use Rattle.subnet_fabric.specs.EndPorts.{is_end_port}

-- what a topology says of an end port
abbrev pub planned_port : TopologyState → PortRef → FabricPort
planned_port plan at = record {
  guid = port_guid_at plan.nodes at;
  number = at.port;
  node_guid = guid_at plan.nodes at.node;
  description = named (name_at plan.nodes at.node);
  num_ports = ports_at plan.nodes at.node;
  is_switch = is_switch_at plan.nodes at.node;
}

-- of another port it says nothing
abbrev pub planned_port_in : TopologyState → PortRef → Option FabricPort
planned_port_in plan at = if is_end_port plan at then Some (planned_port plan at) else None

-- what is listed of an end port, its LID and its keys aside
abbrev pub listed_port : SubnetPort → FabricPort
listed_port port = record {
  guid = port.guid;
  number = port.number;
  node_guid = port.node_guid;
  description = named port.node_name;
  num_ports = port.num_ports;
  is_switch = is_switch_type port.node_type;
}

-- the list is that of a graph's end ports, whose LIDs are the places of these GUIDs
pub record AreOfGraph (graph : GraphState) (guids : List ℕ) (ports : List SubnetPort) : Type 0 where
  pub lids : map (λ port. (port.lid, port.guid)) ports ≡ enumerate_from 1 guids
  pub ends : All (λ port. Contains (end_ports_in graph) (listed_port port)) ports
