-- Whether a topology that was read is that of a discovery.
use Rattle.std.specs.Prelude.{ℕ, Bool, false, not, ◌+◌, ◌==◌, ◌&&◌, ◌||◌, List, length, Option, Some, None}
use Rattle.std.specs.List.{list_all, list_any, range_with_len, zip}
use Rattle.std.specs.Option.{option_map_or}
use Rattle.std.specs.Str.{bytes_eq}
use Rattle.fabric_parts.specs.declared.cable.Cable.{Cable}
use Rattle.fabric_parts.specs.declared.cable.PortRef.{PortRef}
use Rattle.fabric_parts.specs.NodeType.{node_type_code}
use Rattle.netdiscover_file.specs.declared.port.PortLine.{PortLine}
use Rattle.netdiscover_file.specs.Agreement.{far_line}
use Rattle.netdiscover_file.specs.Discovery.{DiscoveryState}
use Rattle.topo_file.specs.declared.node.Node.{Node}
use Rattle.topo_file.specs.Node.{guid_at, is_switch, is_switch_at, port_guid_at}
use Rattle.topo_file.specs.Topology.{TopologyState}
use Rattle.topology_import.specs.declared.planned.Planned.{Planned}
use Rattle.topology_import.specs.Ends.{counted, is_above}
use Rattle.topology_import.specs.Nodes.{switch_guid_at}

-- ---- nodes: those that were meant, in their order
abbrev pub is_as_planned : Planned × Node → Bool
is_as_planned pair =
    bytes_eq pair.0.name pair.1.name
    && ((node_type_code pair.0.node_type == node_type_code pair.1.node_type) && ((pair.0.guid == pair.1.guid) && (pair.0.ports == pair.1.ports)))

abbrev pub are_as_planned : List Planned → List Node → Bool
are_as_planned planned nodes = (length planned == length nodes) && list_all is_as_planned (zip planned nodes)

-- each port of an adapter is an end port of the discovery
abbrev pub has_ends : List PortLine → Node → Bool
has_ends ends node = is_switch node || list_all (λ before. is_above ends node.guid (before + 1)) (range_with_len 0 node.ports)

-- ---- ports: an end port by its own GUID, one of a switch by the GUID of the switch and its number
abbrev pub is_end_port : List Node → PortRef → ℕ → Bool
is_end_port nodes port guid = not (is_switch_at nodes port.node) && (port_guid_at nodes port == guid)

abbrev pub is_switch_port : List Node → PortRef → ℕ → ℕ → Bool
is_switch_port nodes port guid number = is_switch_at nodes port.node && ((guid_at nodes port.node == guid) && (port.port == number))

abbrev pub is_port_by : DiscoveryState → List Node → PortRef → Option ℕ → PortRef → Bool
is_port_by discovery nodes own (Some guid) port = is_end_port nodes port guid
is_port_by discovery nodes own None port = is_switch_port nodes port (switch_guid_at discovery.nodes own.node) own.port

-- the port of the topology is that of the line
abbrev pub is_port_of : DiscoveryState → List Node → PortLine → PortRef → Bool
is_port_of discovery nodes line port = is_port_by discovery nodes line.port line.guid port

-- ---- cables
abbrev pub is_between : DiscoveryState → List Node → Cable → PortLine → PortLine → Bool
is_between discovery nodes cable line other =
    (is_port_of discovery nodes line cable.first && is_port_of discovery nodes other cable.second)
    || (is_port_of discovery nodes line cable.second && is_port_of discovery nodes other cable.first)

-- the cable joins the port of the line and that to which the line leads
abbrev pub is_cable_of : DiscoveryState → List Node → PortLine → Cable → Bool
is_cable_of discovery nodes line cable =
    option_map_or (is_between discovery nodes cable line) (far_line discovery.nodes discovery.ports line.far) false

abbrev pub has_cable : DiscoveryState → TopologyState → PortLine → Bool
has_cable discovery plan line = list_any (is_cable_of discovery plan.nodes line) plan.cables

abbrev pub is_reported : DiscoveryState → TopologyState → Cable → Bool
is_reported discovery plan cable = list_any (λ line. is_cable_of discovery plan.nodes line cable) (counted discovery)

-- no switch is named as a root
abbrev pub has_no_roots : TopologyState → Bool
has_no_roots plan = length plan.roots == 0

-- ---- the nodes are as they were meant, adapters have the ports of the discovery alone, each line that counts has its cable,
-- each cable is that of such a line, the subnet manager is on the port of this GUID, and there are no roots
abbrev pub agrees : DiscoveryState → List PortLine → List Planned → ℕ → TopologyState → Bool
agrees discovery ends planned manager plan =
    are_as_planned planned plan.nodes
    && (list_all (has_ends ends) plan.nodes
    && (list_all (has_cable discovery plan) (counted discovery)
    && (list_all (is_reported discovery plan) plan.cables && (is_end_port plan.nodes plan.sm manager && has_no_roots plan))))
