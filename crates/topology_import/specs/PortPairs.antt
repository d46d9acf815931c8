-- Ports named by GUIDs alone, and the pairs of them that cables join: how the code finds a line's cable among many. What it
-- finds is `agrees` of Agreement, and no other definition stands on this one.
use Rattle.std.specs.Prelude.{ℕ, Bool, false, ◌+◌, ◌==◌, ◌&&◌, ◌||◌, List, Option, Some, None, if◌then◌else◌}
use Rattle.std.specs.List.{list_any}
use Rattle.std.specs.Option.{option_map_or}
use Rattle.fabric_parts.specs.declared.cable.Cable.{Cable}
use Rattle.fabric_parts.specs.declared.cable.PortRef.{PortRef}
use Rattle.netdiscover_file.specs.declared.port.PortLine.{PortLine}
use Rattle.netdiscover_file.specs.Agreement.{far_line}
use Rattle.netdiscover_file.specs.Discovery.{DiscoveryState}
use Rattle.topo_file.specs.declared.node.Node.{Node}
use Rattle.topo_file.specs.Node.{guid_at, is_switch_at, port_guid_at}
use Rattle.topology_import.specs.declared.port_pairs.PortKey.{PortKey}
use Rattle.topology_import.specs.declared.port_pairs.PortPair.{PortPair}
use Rattle.topology_import.specs.Nodes.{switch_guid_at}

-- an end port by its own GUID, a port of a switch by the GUID of the switch and its number, from 1 on
abbrev pub end_key : ℕ → PortKey
end_key guid = record { guid = guid; number = 0 }

abbrev pub switch_key : ℕ → ℕ → PortKey
switch_key guid number = record { guid = guid; number = number + 1 }

abbrev pub port_key : List Node → PortRef → PortKey
port_key nodes port =
    if is_switch_at nodes port.node then switch_key (guid_at nodes port.node) port.port else end_key (port_guid_at nodes port)

abbrev pub key_by : DiscoveryState → PortRef → Option ℕ → PortKey
key_by discovery own (Some guid) = end_key guid
key_by discovery own None = switch_key (switch_guid_at discovery.nodes own.node) own.port

abbrev pub line_key : DiscoveryState → PortLine → PortKey
line_key discovery line = key_by discovery line.port line.guid

abbrev pub is_same_key : PortKey → PortKey → Bool
is_same_key a b = (a.guid == b.guid) && (a.number == b.number)

abbrev pub is_same_pair : PortPair → PortPair → Bool
is_same_pair a b = is_same_key a.first b.first && is_same_key a.second b.second

abbrev pub pair_of : PortKey → PortKey → PortPair
pair_of a b = record { first = a; second = b }

-- a pair of the list joins these two, either of them first
abbrev pub joins : List PortPair → PortKey → PortKey → Bool
joins pairs a b = list_any (is_same_pair (pair_of a b)) pairs || list_any (is_same_pair (pair_of b a)) pairs

abbrev pub cable_pair : List Node → Cable → PortPair
cable_pair nodes cable = pair_of (port_key nodes cable.first) (port_key nodes cable.second)

-- the port of a line, and that to which it leads, are this pair
abbrev pub is_pair_of : DiscoveryState → PortPair → PortLine → Bool
is_pair_of discovery pair line =
    option_map_or (λ other. is_same_pair pair (pair_of (line_key discovery line) (line_key discovery other)))
    (far_line discovery.nodes discovery.ports line.far) false

-- the port of a line, and that to which it leads, are joined
abbrev pub joins_line : DiscoveryState → List PortPair → PortLine → Bool
joins_line discovery pairs line =
    option_map_or (λ other. joins pairs (line_key discovery line) (line_key discovery other))
    (far_line discovery.nodes discovery.ports line.far) false

-- and so are the ends of a cable
abbrev pub joins_cable : List Node → List PortPair → Cable → Bool
joins_cable nodes pairs cable = joins pairs (port_key nodes cable.first) (port_key nodes cable.second)
