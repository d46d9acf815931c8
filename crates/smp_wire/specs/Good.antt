-- What every good fabric meets, whatever its agents were asked; and, apart from it, that links show and
-- that switches are joined.
use Rattle.std.specs.Prelude.{ℕ, ◌^◌, ◌≡◌, ◌==◌, not, ◌&&◌, ◌||◌, nat_le, nat_lt, Bool, true, false, List, [], ◌∷◌, map, flat_map, length, slice_get, Option, Some, option_map}
use Rattle.std.specs.List.{All, list_all, range_with_len, IsDistinct}
use Rattle.std.specs.Str.{bytes_eq}
use Rattle.std.specs.Option.{option_and_then, option_map_or}
use Rattle.agent_rules.specs.PortSetting.{is_down}
use Rattle.attr_tables.specs.declared.port_info.PortInfo.{PortInfo}
use Rattle.attr_tables.specs.declared.port_state.PortState.TheVariants.{Initialize, Active}
use Rattle.attr_tables.specs.PortState.{port_state_code}
use Rattle.agent_rules.specs.declared.power_up.TheConstants.{LINEAR_TABLE, MULTICAST_TABLE}
use Rattle.port_model.specs.AdapterState.{AdapterState}
use Rattle.port_model.specs.Good.{IsGoodPort}
use Rattle.switch_model.specs.Good.{IsGoodSwitch}
use Rattle.fabric_parts.specs.declared.cable.Cable.{Cable}
use Rattle.fabric_parts.specs.declared.cable.PortRef.{PortRef}
use Rattle.fabric_parts.specs.declared.node_type.NodeType.TheVariants as node_type
use Rattle.fabric_parts.specs.Cable.{is_cabled, is_same_port, last_of}
use Rattle.fabric_parts.specs.NodeType.{most_ports}
use Rattle.smp_wire.specs.declared.node.Node.{Node}
use Rattle.smp_wire.specs.declared.node.Node.TheVariants.{Switch, Adapter}
use Rattle.smp_wire.specs.FabricState.{FabricState, adapter_port, all_cables, is_port, is_switch_at, port_count}
use Rattle.smp_wire.specs.Walk.{walk}

-- ---- GUIDs
-- the GUID of a node; the ports of an adapter all hold it
abbrev pub node_guid : Node → ℕ
node_guid (Switch held) = held.node_guid
node_guid (Adapter ports) = option_map_or (λ port. port.node_guid) (slice_get ports 0) 0

-- those of its ports, cabled or not: port 0 of a switch has the switch's own
abbrev pub end_port_guids : Node → List ℕ
end_port_guids (Switch held) = held.node_guid ∷ []
end_port_guids (Adapter ports) = map (λ port. port.port_guid) ports

-- a number of 64 bits that is not 0
abbrev pub is_guid : ℕ → Bool
is_guid number = nat_lt 0 number && nat_lt number (2 ^ 64)

-- each is one, and no two are the same
pub record AreGuids (guids : List ℕ) : Type 0 where
  pub each : list_all is_guid guids ≡ true
  pub own : IsDistinct (λ a b. a == b) guids

-- ---- ports
-- a node has at least one, and no more than such a node may have
abbrev pub most_ports_of : Node → ℕ
most_ports_of (Switch held) = most_ports node_type.Switch
most_ports_of (Adapter ports) = most_ports node_type.ChannelAdapter

abbrev pub has_a_right_count : Node → Bool
has_a_right_count node = nat_le 1 (port_count node) && nat_le (port_count node) (most_ports_of node)

-- the ports of an adapter are of one node, and stand in order of their numbers
abbrev pub is_of : ℕ → ℕ → AdapterState → Bool
is_of guid count port = (port.node_guid == guid) && (port.num_ports == count)

abbrev pub is_in_order : Node → Bool
is_in_order (Switch held) = true
is_in_order (Adapter ports) =
    list_all (is_of (node_guid (Adapter ports)) (length ports)) ports
    && bytes_eq (map (λ port. port.number) ports) (range_with_len 1 (length ports))

-- ---- what nodes hold
-- what attributes can say, in tables of their lengths, and with ports that take back what they have
abbrev pub IsGoodNode : Node → Type 0
IsGoodNode (Switch held) = IsGoodSwitch LINEAR_TABLE MULTICAST_TABLE held
IsGoodNode (Adapter ports) = All IsGoodPort ports

-- ---- cables
-- a cable joins ports of two different switches, or of a switch and an adapter
abbrev pub is_right : List Node → Cable → Bool
is_right nodes cable =
    is_port nodes cable.first
    && (is_port nodes cable.second
    && (not (cable.first.node == cable.second.node)
    && (is_switch_at nodes cable.first.node || is_switch_at nodes cable.second.node)))

abbrev pub ends_of : Cable → List PortRef
ends_of cable = cable.first ∷ cable.second ∷ []

pub record IsGood (fabric : FabricState) : Type 0 where
  pub node_guids : AreGuids (map node_guid fabric.nodes)
  pub end_guids : AreGuids (flat_map end_port_guids fabric.nodes)
  pub counts : list_all has_a_right_count fabric.nodes ≡ true
  pub order : list_all is_in_order fabric.nodes ≡ true
  pub holdings : All IsGoodNode fabric.nodes
  pub cables : list_all (is_right fabric.nodes) (all_cables fabric) ≡ true
  -- no port has two cables, one that is cut or not
  pub once : IsDistinct is_same_port (flat_map ends_of (all_cables fabric))
  -- the SM port is a port of an adapter, and has a cable
  pub manager_port : is_port fabric.nodes fabric.manager ≡ true
  pub manager_adapter : is_switch_at fabric.nodes fabric.manager.node ≡ false
  pub manager_cabled : is_cabled fabric.cables fabric.manager ≡ true

-- ---- links
-- the PortInfo of a port of a node
abbrev pub port_info_at : Node → ℕ → Option PortInfo
port_info_at (Switch held) number = option_map (λ port. port.info) (slice_get held.ports number)
port_info_at (Adapter ports) number = option_map (λ port. port.info) (adapter_port ports number)

abbrev pub info_at : FabricState → PortRef → Option PortInfo
info_at fabric at = option_and_then (λ node. port_info_at node at.port) (slice_get fabric.nodes at.node)

-- a port is Down if and only if it has no cable
abbrev pub ShowsLinks : FabricState → Type 0
ShowsLinks fabric =
    (at : PortRef) (info : PortInfo) → is_port fabric.nodes at ≡ true → info_at fabric at ≡ Some info
    → is_down info ≡ not (is_cabled fabric.cables at)

-- the state is one that a port with a cable has: Initialize, Armed or Active
abbrev pub is_up : PortInfo → Bool
is_up info = nat_le (port_state_code Initialize) info.port_state && nat_le info.port_state (port_state_code Active)

-- ---- that switches are joined: a property of its own, since a cable may be taken away later
-- a walk out of these ports leads from one node to the other
abbrev pub leads : FabricState → ℕ → List ℕ → ℕ → Bool
leads fabric a numbers b =
    option_map_or (λ ends. (last_of (record { node = a; port = 0 }) ends).node == b)
    (walk fabric.nodes fabric.cables false (record { node = a; port = 0 }) numbers) false

abbrev pub SwitchesJoined : FabricState → Type 0
SwitchesJoined fabric =
    (a b : ℕ) → is_switch_at fabric.nodes a ≡ true → is_switch_at fabric.nodes b ≡ true
    → (numbers : List ℕ) × (leads fabric a numbers b ≡ true)
