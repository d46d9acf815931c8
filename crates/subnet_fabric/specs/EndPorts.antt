-- What is so of the list of end ports of every topology, whatever its partitions.
use Rattle.std.specs.Prelude.{◌≡◌, ◌<◌, Bool, true, ◌==◌, ◌&&◌, if◌then◌else◌, List, All}
use Rattle.std.specs.List.{IsDistinct, list_any}
use Rattle.pkey_rules.specs.declared.end_port.EndPort.{EndPort}
use Rattle.fabric_parts.specs.declared.cable.PortRef.{PortRef}
use Rattle.fabric_parts.specs.Cable.{is_cabled, is_same_port}
use Rattle.partition_file.specs.declared.partition.Partition.{Partition}
use Rattle.partition_file.specs.Members.{keys_in}
use Rattle.topo_file.specs.Node.{guid_at, is_switch_at, name_at, port_guid_at, ports_at}
use Rattle.topo_file.specs.Sound.{is_port}
use Rattle.topo_file.specs.Topology.{TopologyState}
use Rattle.subnet_model.specs.declared.subnet_port.SubnetPort.{SubnetPort}
use Rattle.subnet_model.specs.Configured.{HaveLidsInOrder, same_guid}
use Rattle.subnet_fabric.specs.Ports.{type_of}

-- the end ports of a topology: port 0 of each switch, and each port of an adapter that has a cable
abbrev pub is_end_port : TopologyState → PortRef → Bool
is_end_port plan at =
    if is_switch_at plan.nodes at.node then at.port == 0 else is_port plan.nodes at && is_cabled plan.cables at

-- one of them as membership rules see it
abbrev pub end_port_at : TopologyState → PortRef → EndPort
end_port_at plan at = record {
  guid = port_guid_at plan.nodes at;
  is_switch = is_switch_at plan.nodes at.node;
  is_sm = is_same_port at plan.sm;
}

-- a port of the list is an end port of the topology, with what the topology and the partitions say of it
pub record IsEndPort (partitions : List Partition) (plan : TopologyState) (port : SubnetPort) : Type 0 where
  pub at : PortRef
  pub there : is_end_port plan at ≡ true
  pub guid : port.guid ≡ port_guid_at plan.nodes at
  pub node_name : port.node_name ≡ name_at plan.nodes at.node
  pub node_guid : port.node_guid ≡ guid_at plan.nodes at.node
  pub num_ports : port.num_ports ≡ ports_at plan.nodes at.node
  pub number : port.number ≡ at.port
  pub node_type : port.node_type ≡ type_of (is_switch_at plan.nodes at.node)
  pub keys : port.keys ≡ keys_in partitions (end_port_at plan at)

-- LIDs count from 1; LID 1 is the subnet manager's, and the others follow in order of GUID. Each
-- port is an end port, each end port is there, and no two have one GUID.
pub record AreEndPorts (partitions : List Partition) (plan : TopologyState) (ports : List SubnetPort) : Type 0 where
  pub lids : HaveLidsInOrder ports
  pub manager : All (λ port. port.lid ≡ 1 → port.guid ≡ port_guid_at plan.nodes plan.sm) ports
  pub by_guid : All (λ a. All (λ b. 1 < a.lid → a.lid < b.lid → a.guid < b.guid) ports) ports
  pub only : All (IsEndPort partitions plan) ports
  pub all : (at : PortRef) → is_end_port plan at ≡ true
      → list_any (λ port. port.guid == port_guid_at plan.nodes at) ports ≡ true
  pub own_guids : IsDistinct same_guid ports
