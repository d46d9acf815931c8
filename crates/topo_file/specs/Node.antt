-- Nodes: switches and adapters, their names, ports and GUIDs.
use Rattle.std.specs.Prelude.{ℕ, ◌≡◌, ◌+◌, ◌^◌, ◌<◌, ◌≤◌, Bool, false, ◌&&◌, ◌||◌, nat_le, nat_lt, List, [], position, count_by, sum_by, slice_get, Option}
use Rattle.std.specs.List.{list_any}
use Rattle.std.specs.Option.{option_map_or}
use Rattle.std.specs.Str.{bytes_eq}
use Rattle.fabric_parts.specs.declared.cable.PortRef.{PortRef}
use Rattle.fabric_parts.specs.declared.node_type.NodeType.{NodeType}
use Rattle.fabric_parts.specs.declared.node_type.NodeType.TheVariants.{Switch, ChannelAdapter}
use Rattle.fabric_parts.specs.Limits.{most_adapter_ports, most_switches}
use Rattle.fabric_parts.specs.NodeType.{is_switch_type}
use Rattle.topo_file.specs.declared.node.Node.{Node}
use Rattle.fabric_parts.specs.declared.limits.Limits.{Limits}
use Rattle.fabric_parts.specs.declared.limits.Limits.TheVariants.{Simulated}

abbrev pub is_switch : Node → Bool
is_switch node = is_switch_type node.node_type

-- where the node of this name stands among the nodes
abbrev pub place_of : List ℕ → List Node → Option ℕ
place_of name nodes = position (λ node. bytes_eq name node.name) nodes

-- a node stands there, and it is a switch
abbrev pub is_switch_at : List Node → ℕ → Bool
is_switch_at nodes place = option_map_or is_switch (slice_get nodes place) false

-- the name of the node there; no name if there is none
abbrev pub name_at : List Node → ℕ → List ℕ
name_at nodes place = option_map_or (λ node. node.name) (slice_get nodes place) []

-- the GUID of the node there; 0, which is no GUID, if there is none
abbrev pub guid_at : List Node → ℕ → ℕ
guid_at nodes place = option_map_or (λ node. node.guid) (slice_get nodes place) 0

-- how many ports the node there has; they count from 1
abbrev pub ports_at : List Node → ℕ → ℕ
ports_at nodes place = option_map_or (λ node. node.ports) (slice_get nodes place) 0

-- port p of an adapter has the GUID that is p above its node's
abbrev pub port_guid : Node → ℕ → ℕ
port_guid node number = node.guid + number

-- of a port of the adapter there; 0, which is no GUID, if there is no node
abbrev pub port_guid_at : List Node → PortRef → ℕ
port_guid_at nodes port = option_map_or (λ node. port_guid node port.port) (slice_get nodes port.node) 0

-- a switch has one GUID, for itself and its port 0; an adapter has one for each of its ports besides. So the GUIDs of a
-- node follow one another, from its own to the last.
abbrev pub port_guids : NodeType → ℕ → ℕ
port_guids Switch ports = 0
port_guids ChannelAdapter ports = ports

abbrev pub last_guid : Node → ℕ
last_guid node = port_guid node (port_guids node.node_type node.ports)

-- this is one of them
abbrev pub IsGuidOf : Node → ℕ → Type 0
IsGuidOf node guid = (number : ℕ) × (number ≤ port_guids node.node_type node.ports) × (guid ≡ port_guid node number)

-- all GUIDs of the node have 64 bits
abbrev pub HasGuids : Node → Type 0
HasGuids node = last_guid node < 2 ^ 64

-- some GUID is both nodes'
abbrev pub shares_guid : Node → Node → Bool
shares_guid a b = nat_le a.guid (last_guid b) && nat_le b.guid (last_guid a)

-- a GUID of the node is past 64 bits, or one of these nodes has it
abbrev pub lacks_guids : List Node → Node → Bool
lacks_guids nodes node = nat_le (2 ^ 64) (last_guid node) || list_any (λ other. shares_guid node other) nodes

abbrev pub switch_count : List Node → ℕ
switch_count nodes = count_by is_switch nodes

-- how many ports the adapters have, all together
abbrev pub adapter_ports : List Node → ℕ
adapter_ports nodes = sum_by (λ node. port_guids node.node_type node.ports) nodes

-- so many nodes are there already that no such node may follow these
abbrev pub is_one_too_many : Limits → List Node → NodeType → ℕ → Bool
is_one_too_many limits nodes Switch ports = nat_le (most_switches limits) (switch_count nodes)
is_one_too_many limits nodes ChannelAdapter ports = nat_lt (most_adapter_ports limits) (adapter_ports nodes + ports)

-- no limit is passed
abbrev pub IsWithin : Limits → List Node → Type 0
IsWithin limits nodes = (switch_count nodes ≤ most_switches limits) × (adapter_ports nodes ≤ most_adapter_ports limits)

-- no limit of simulated fabrics is passed
abbrev pub IsWithinLimits : List Node → Type 0
IsWithinLimits nodes = IsWithin Simulated nodes
