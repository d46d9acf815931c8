-- The end ports of a subnet, as a topology has them, with the keys that its partitions give them.
use Rattle.std.specs.Prelude.{ℕ, Bool, true, false, List, [], ◌∷◌, map, fold, nat_le, if◌then◌else◌}
use Rattle.std.specs.Prelude.{◌≤◌, All}
use Rattle.std.specs.List.{flat_map, enumerate_from, range_with_len}
use Rattle.partition_file.specs.declared.partition.Partition.{Partition}
use Rattle.partition_file.specs.Members.{heading_of, keys_in}
use Rattle.pkey_rules.specs.declared.end_port.EndPort.{EndPort}
use Rattle.subnet_model.specs.Configuration.{ConfigurationState}
use Rattle.subnet_model.specs.EndPorts.{lid_of}
use Rattle.subnet_model.specs.declared.subnet_port.SubnetPort.{SubnetPort}
use Rattle.fabric_parts.specs.declared.cable.PortRef.{PortRef}
use Rattle.fabric_parts.specs.declared.node_type.NodeType.{NodeType}
use Rattle.fabric_parts.specs.declared.node_type.NodeType.TheVariants.{ChannelAdapter, Switch}
use Rattle.fabric_parts.specs.Cable.{is_cabled, is_same_port}
use Rattle.topo_file.specs.declared.node.Node.{Node}
use Rattle.subnet_fabric.specs.declared.end_ports.EndPlace.{EndPlace}
use Rattle.topo_file.specs.Node.{guid_at, name_at, port_guid, ports_at}
use Rattle.topo_file.specs.Topology.{TopologyState}

-- port 0 of a switch, which has the GUID of the switch
abbrev pub switch_end_place : ℕ → Node → EndPlace
switch_end_place place node = record {
  place = place;
  number = 0;
  port = record { guid = node.guid; is_switch = true; is_sm = false };
}

-- a port of an adapter, which has a GUID of its own
abbrev pub adapter_end_place : PortRef → Node → PortRef → EndPlace
adapter_end_place sm node at = record {
  place = at.node;
  number = at.port;
  port = record { guid = port_guid node at.port; is_switch = false; is_sm = is_same_port at sm };
}

-- a port of an adapter is an end port if it has a cable
abbrev pub end_place_if_cabled : TopologyState → Node → PortRef → List EndPlace
end_place_if_cabled plan node at = if is_cabled plan.cables at then adapter_end_place plan.sm node at ∷ [] else []

abbrev pub adapter_end_places : TopologyState → ℕ → Node → ℕ → List EndPlace
adapter_end_places plan place node count =
    flat_map (end_place_if_cabled plan node)
    (map (λ number. record { node = place; port = number }) (range_with_len 1 count))

abbrev pub end_places_of_type : NodeType → TopologyState → ℕ → Node → List EndPlace
end_places_of_type Switch plan place node = switch_end_place place node ∷ []
end_places_of_type ChannelAdapter plan place node = adapter_end_places plan place node node.ports

-- the end ports of the node at its place
abbrev pub end_places_at : TopologyState → ℕ × Node → List EndPlace
end_places_at plan placed = end_places_of_type placed.1.node_type plan placed.0 placed.1

-- the end ports of all nodes, one node after the other
abbrev pub end_places : TopologyState → List EndPlace
end_places plan = flat_map (end_places_at plan) (enumerate_from 0 plan.nodes)

abbrev pub end_ports : List EndPlace → List EndPort
end_ports all = map (λ end_place. end_place.port) all

abbrev pub type_of : Bool → NodeType
type_of true = Switch
type_of false = ChannelAdapter

-- an end port as the subnet knows it
abbrev pub end_placed : List Node → List ℕ → ℕ → EndPlace → SubnetPort
end_placed nodes keys lid end_place = record {
  lid = lid;
  guid = end_place.port.guid;
  node_name = name_at nodes end_place.place;
  node_guid = guid_at nodes end_place.place;
  num_ports = ports_at nodes end_place.place;
  number = end_place.number;
  node_type = type_of end_place.port.is_switch;
  keys = keys;
}

-- the port at its place in a list in order of LID
abbrev pub with_port : List SubnetPort → SubnetPort → List SubnetPort
with_port [] port = port ∷ []
with_port (first ∷ rest) port =
    if nat_le first.lid port.lid then first ∷ with_port rest port else port ∷ first ∷ rest

-- no port has a lesser LID than one before it
abbrev pub Rise : List SubnetPort → Type 0
Rise [] = Unit {0}
Rise (port ∷ ports) = All (λ other. port.lid ≤ other.lid) ports × Rise ports

-- each end port beside the keys that the partitions give it
abbrev pub keyed : List Partition → List EndPlace → List (EndPlace × List ℕ)
keyed partitions some = map (λ end_place. (end_place, keys_in partitions end_place.port)) some

-- one more end port, with its LID and its keys
abbrev pub with_end_place : List Node → List EndPort → List SubnetPort → EndPlace × List ℕ → List SubnetPort
with_end_place nodes all ports one = with_port ports (end_placed nodes one.1 (lid_of all one.0.port) one.0)

-- all of them, in order of LID
abbrev pub in_order : List Node → List EndPort → List (EndPlace × List ℕ) → List SubnetPort
in_order nodes all some = fold (with_end_place nodes all) [] some

-- the end ports of a topology under these partitions
abbrev pub ports_of : List Partition → TopologyState → List SubnetPort
ports_of partitions plan = in_order plan.nodes (end_ports (end_places plan)) (keyed partitions (end_places plan))

-- and what a subnet is brought up as
abbrev pub configuration_of : List Partition → TopologyState → ConfigurationState
configuration_of partitions plan = record { ports = ports_of partitions plan; partitions = map heading_of partitions }
