-- What an audit takes of a fabric: its nodes and cables, and the GUIDs of its end ports. A topology gives it, or a discovery.
use Rattle.std.specs.Prelude.{ℕ, ◌+◌, ◌==◌, ◌&&◌, ◌||◌, nat_eq, nat_le, nat_lt, Bool, false, not, List, [], ◌∷◌, ◌++◌, codes, bytes_eq, count_by, filter, find, flat_map, get_or, length, map, slice_get, if◌then◌else◌, Option, Some, None, option_map, unwrap_or}
use Rattle.std.specs.List.{ends_with, list_any, range_with_len}
use Rattle.std.specs.Option.{option_map_or}
use Rattle.fabric_parts.specs.Cable.{port}
use Rattle.fabric_parts.specs.declared.cable.Cable.{Cable}
use Rattle.fabric_parts.specs.declared.cable.PortRef.{PortRef}
use Rattle.fabric_parts.specs.declared.lid.TheConstants.{LAST_UNICAST_LID}
use Rattle.fabric_parts.specs.declared.node_type.NodeType.{NodeType}
use Rattle.fabric_parts.specs.declared.node_type.NodeType.TheVariants as node_type
use Rattle.netdiscover_file.specs.declared.kind.NodeKind.{NodeKind}
use Rattle.netdiscover_file.specs.declared.node.Node.{Node as FoundNode}
use Rattle.netdiscover_file.specs.declared.port.PortLine.{PortLine}
use Rattle.netdiscover_file.specs.Agreement.{far_line}
use Rattle.netdiscover_file.specs.Discovery.{DiscoveryState}
use Rattle.netdiscover_file.specs.Kind.{is_switch as is_switch_kind}
use Rattle.netdiscover_file.specs.Node.{is_switch_at as is_found_switch}
use Rattle.text_words.specs.Parts.{guid_text}
use Rattle.topo_file.specs.declared.node.Node.{Node}
use Rattle.topo_file.specs.Node.{is_switch, is_switch_at}
use Rattle.topo_file.specs.Topology.{TopologyState}
use Rattle.audit_plan.specs.declared.ends.EndGuid.{EndGuid}
use Rattle.audit_plan.specs.declared.ends.LidGuid.{LidGuid}

-- the GUID of a node heads the LFT of a switch; those of end ports are what a LID's row names. No packet goes over the cables
-- that join no switch, which have a list of their own. The list of nodes says of each whether it is an aggregation node.
-- A topology has no LIDs; a discovery reports those that end ports have.
pub record PlanState : Type 0 where
  pub nodes : List Node
  pub cables : List Cable
  pub apart : List Cable
  pub ends : List EndGuid
  pub aggregation : List Bool
  pub lids : List LidGuid

-- ---- a host: what is neither a switch nor the aggregation node of one
abbrev pub is_aggregation_node : PlanState → ℕ → Bool
is_aggregation_node plan place = get_or plan.aggregation place false

abbrev pub is_host : PlanState → ℕ → Bool
is_host plan place = not (is_switch_at plan.nodes place) && not (is_aggregation_node plan place)

-- a list of places has this one
abbrev pub is_on : (there : ℕ) → List ℕ → Bool
is_on there places = list_any (λ place. place == there) places

-- the end port of this GUID: the first that has it
abbrev pub port_of : List EndGuid → ℕ → Option PortRef
port_of ends guid = option_map (λ end. end.port) (find (λ end. end.guid == guid) ends)

-- ---- of a topology: port 0 of a switch has the GUID of the switch, port p of an adapter that which is p above its node's
abbrev pub end_with : ℕ → ℕ → ℕ → EndGuid
end_with place guid number = record { guid = guid + number; port = port place number }

abbrev pub adapter_end : ℕ → ℕ → ℕ → List EndGuid
adapter_end place guid before = end_with place guid (before + 1) ∷ []

abbrev pub adapter_ends : ℕ → Node → List EndGuid
adapter_ends place node = flat_map (adapter_end place node.guid) (range_with_len 0 node.ports)

abbrev pub ends_in : ℕ → Node → List EndGuid
ends_in place node = if is_switch node then end_with place node.guid 0 ∷ [] else adapter_ends place node

abbrev pub ends_at : List Node → ℕ → List EndGuid
ends_at nodes place = option_map_or (ends_in place) (slice_get nodes place) []

abbrev pub ends_of : List Node → List EndGuid
ends_of nodes = flat_map (ends_at nodes) (range_with_len 0 (length nodes))

abbrev pub plan_of : TopologyState → PlanState
plan_of topology = record { nodes = topology.nodes; cables = topology.cables; apart = []; ends = ends_of topology.nodes; aggregation = []; lids = [] }

-- ---- of a discovery: what is no switch forwards nothing, be it a channel adapter or a router
abbrev pub type_of : NodeKind → NodeType
type_of kind = if is_switch_kind kind then node_type.Switch else node_type.ChannelAdapter

-- the name of a node is its description; if another node has the same one, or if it is empty, the GUID stands behind it
abbrev pub is_own : List FoundNode → List ℕ → Bool
is_own nodes name = (count_by (λ node. bytes_eq name node.name) nodes == 1) && not (length name == 0)

abbrev pub with_guid : List ℕ → ℕ → List ℕ
with_guid [] guid = guid_text guid
with_guid (byte ∷ rest) guid = (byte ∷ rest) ++ codes " " ++ guid_text guid

abbrev pub shown_name : List FoundNode → FoundNode → List ℕ
shown_name nodes node = if is_own nodes node.name then node.name else with_guid node.name node.id.guid

abbrev pub found_node : List FoundNode → FoundNode → Node
found_node nodes node = record { name = shown_name nodes node; node_type = type_of node.id.kind; guid = node.id.guid; ports = node.ports }

abbrev pub found_nodes : List FoundNode → List Node
found_nodes nodes = map (found_node nodes) nodes

-- the description of an aggregation node, as `Mellanox Technologies Aggregation Node`, ends so
abbrev pub says_aggregation : FoundNode → Bool
says_aggregation node = not (is_switch_kind node.id.kind) && ends_with nat_eq node.name (codes "Aggregation Node")

abbrev pub found_aggregation : List FoundNode → List Bool
found_aggregation nodes = map says_aggregation nodes

-- port 0 of a switch has the GUID that is reported of it, or if none is the switch's; other ports have their own
abbrev pub switch_end : ℕ → FoundNode → List EndGuid
switch_end place node = if is_switch_kind node.id.kind then (record { guid = unwrap_or node.port_guid node.id.guid; port = port place 0 }) ∷ [] else []

abbrev pub switch_end_at : List FoundNode → ℕ → List EndGuid
switch_end_at nodes place = option_map_or (switch_end place) (slice_get nodes place) []

abbrev pub switch_ends : List FoundNode → List EndGuid
switch_ends nodes = flat_map (switch_end_at nodes) (range_with_len 0 (length nodes))

abbrev pub end_if_any : PortRef → Option ℕ → List EndGuid
end_if_any at (Some guid) = record { guid = guid; port = at } ∷ []
end_if_any at None = []

abbrev pub line_end : PortLine → List EndGuid
line_end line = end_if_any line.port line.guid

abbrev pub found_ends : DiscoveryState → List EndGuid
found_ends found = switch_ends found.nodes ++ flat_map line_end found.ports

-- the LIDs that they report, each with the GUID of its port; a port to which no subnet manager gave one reports 0
abbrev pub is_unicast : ℕ → Bool
is_unicast lid = nat_le 1 lid && nat_le lid LAST_UNICAST_LID

abbrev pub lid_if_unicast : ℕ → ℕ → List LidGuid
lid_if_unicast guid lid = if is_unicast lid then (record { lid = lid; guid = guid }) ∷ [] else []

abbrev pub lid_of_port : ℕ → Option ℕ → List LidGuid
lid_of_port guid lid = option_map_or (lid_if_unicast guid) lid []

abbrev pub switch_lid : FoundNode → List LidGuid
switch_lid node = if is_switch_kind node.id.kind then lid_of_port (unwrap_or node.port_guid node.id.guid) node.lid else []

abbrev pub line_lid : PortLine → List LidGuid
line_lid line = option_map_or (λ guid. lid_of_port guid line.lid) line.guid []

abbrev pub found_lids : DiscoveryState → List LidGuid
found_lids found = flat_map switch_lid found.nodes ++ flat_map line_lid found.ports

-- each cable once, at the first of the two ports that it joins
abbrev pub comes_first : PortRef → PortRef → Bool
comes_first a b = nat_lt a.node b.node || ((a.node == b.node) && nat_le a.port b.port)

abbrev pub cable_if_first : PortRef → PortRef → List Cable
cable_if_first a b = if comes_first a b then record { first = a; second = b } ∷ [] else []

unfoldable pub cable_at : DiscoveryState → PortLine → List Cable
cable_at found line = option_map_or (λ other. cable_if_first line.port other.port) (far_line found.nodes found.ports line.far) []

abbrev pub found_cables : DiscoveryState → List Cable
found_cables found = flat_map (cable_at found) found.ports

abbrev pub joins_switch : List FoundNode → Cable → Bool
joins_switch nodes cable = is_found_switch nodes cable.first.node || is_found_switch nodes cable.second.node

unfoldable pub joining_cables : DiscoveryState → List Cable
joining_cables found = filter (λ cable. joins_switch found.nodes cable) (found_cables found)

unfoldable pub cables_apart : DiscoveryState → List Cable
cables_apart found = filter (λ cable. not (joins_switch found.nodes cable)) (found_cables found)

unfoldable pub plan_found : DiscoveryState → PlanState
plan_found found = record {
  nodes = found_nodes found.nodes;
  cables = joining_cables found;
  apart = cables_apart found;
  ends = found_ends found;
  aggregation = found_aggregation found.nodes;
  lids = found_lids found;
}
