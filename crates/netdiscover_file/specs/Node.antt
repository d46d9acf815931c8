-- Nodes, in the order of their headers.
use Rattle.std.specs.Prelude.{ℕ, Bool, bytes_eq, false, ◌-◌, ◌==◌, ◌&&◌, nat_lt, List, length, position, slice_get, Option, Some, None, if◌then◌else◌}
use Rattle.std.specs.Option.{option_map_or}
use Rattle.fabric_parts.specs.Cable.{port_within}
use Rattle.fabric_parts.specs.declared.cable.PortRef.{PortRef}
use Rattle.netdiscover_file.specs.declared.node.Node.{Node}
use Rattle.netdiscover_file.specs.declared.node.NewNode.{NewNode}
use Rattle.netdiscover_file.specs.declared.ends.NodeId.{NodeId}
use Rattle.netdiscover_file.specs.Kind.{is_switch}
use Rattle.netdiscover_file.specs.Ends.{is_same_node}
use Rattle.netdiscover_file.specs.Port.{is_same_guid}

-- the node that a header becomes
abbrev pub node_seen : NewNode → Node
node_seen node =
    record { id = node.id; ports = node.ports; name = node.name.now; lid = node.lid; port_guid = node.port_guid; line = node.line }

-- where the node of this GUID stands among the nodes
abbrev pub place_of : ℕ → List Node → Option ℕ
place_of guid nodes = position (λ node. guid == node.id.guid) nodes

-- where the last of them stands
abbrev pub last_place : List Node → Option ℕ
last_place nodes = if nat_lt 0 (length nodes) then Some (length nodes - 1) else None

-- a node stands there, and it is a switch
abbrev pub is_switch_at : List Node → ℕ → Bool
is_switch_at nodes place = option_map_or (λ node. is_switch node.id.kind) (slice_get nodes place) false

-- this node stands there
abbrev pub is_node_at : List Node → ℕ → NodeId → Bool
is_node_at nodes place id = option_map_or (λ node. is_same_node node.id id) (slice_get nodes place) false

-- how many ports the node there has; they count from 1
abbrev pub ports_at : List Node → ℕ → ℕ
ports_at nodes place = option_map_or (λ node. node.ports) (slice_get nodes place) 0

-- the port of this number at the node there
abbrev pub port_at : List Node → ℕ → ℕ → Option PortRef
port_at nodes place number = port_within (ports_at nodes place) place number

-- ---- both headers say the same, on whatever lines
abbrev pub has_same_port_0 : Node → Node → Bool
has_same_port_0 a b = is_same_guid a.lid b.lid && is_same_guid a.port_guid b.port_guid

abbrev pub says_same : Node → Node → Bool
says_same a b = is_same_node a.id b.id && ((a.ports == b.ports) && (bytes_eq a.name b.name && has_same_port_0 a b))

-- the header of the node there says the same
abbrev pub says_same_at : List Node → ℕ → Node → Bool
says_same_at nodes place node = option_map_or (λ other. says_same other node) (slice_get nodes place) false
