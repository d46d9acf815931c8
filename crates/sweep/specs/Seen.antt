-- What is seen of a node by NodeInfo (IBA volume 1, 14.2.5.3) and NodeDescription, asked at one of its ports.
use Rattle.std.specs.Prelude.{ℕ, ◌==◌, ◌&&◌, nat_le, Bool, if◌then◌else◌, List, length, slice_get, Option, Some, None, option_map, Result, Ok, Err}
use Rattle.std.specs.Option.{option_and_then, option_map_or}
use Rattle.fabric_parts.specs.NodeType.{most_ports, node_type_code}
use Rattle.fabric_parts.specs.declared.cable.PortRef.{PortRef}
use Rattle.fabric_parts.specs.declared.node_type.NodeType.{NodeType}
use Rattle.fabric_parts.specs.declared.node_type.NodeType.TheVariants as node_type
use Rattle.attr_tables.specs.declared.node_info.NodeInfo.{NodeInfo}
use Rattle.switch_model.specs.SwitchState.{num_ports}
use Rattle.smp_wire.specs.declared.node.Node.{Node}
use Rattle.smp_wire.specs.declared.node.Node.TheVariants.{Switch, Adapter}
use Rattle.smp_wire.specs.FabricState.{FabricState, adapter_port}
use Rattle.smp_wire.specs.Good.{node_guid}
use Rattle.sweep.specs.declared.fault.SweepFault.{SweepFault}
use Rattle.sweep.specs.declared.fault.SweepFault.TheVariants.{WrongReply}
use Rattle.sweep.specs.declared.seen.Seen.{Seen}

-- ---- what a reply shows
-- the type of that code, if it is one
abbrev pub type_of : ℕ → Option NodeType
type_of code =
    if code == node_type_code node_type.ChannelAdapter then Some node_type.ChannelAdapter
    else (if code == node_type_code node_type.Switch then Some node_type.Switch else None)

-- such a node may have so many ports, and the port that was asked is one of them
abbrev pub is_of_ours : NodeInfo → NodeType → Bool
is_of_ours info kind =
    nat_le 1 info.num_ports
    && (nat_le info.num_ports (most_ports kind)
    && (nat_le 1 info.local_port_num && nat_le info.local_port_num info.num_ports))

abbrev pub seen_as : NodeInfo → NodeType → Seen
seen_as info kind =
    record {
      node_type = kind;
      num_ports = info.num_ports;
      node_guid = info.node_guid;
      port_guid = info.port_guid;
      local_port_num = info.local_port_num;
    }

unfoldable pub seen_of : NodeInfo → Result Seen SweepFault
seen_of info =
    option_map_or (λ kind. if is_of_ours info kind then Ok (seen_as info kind) else Err WrongReply)
    (type_of info.node_type) (Err WrongReply)

-- ---- what a fabric shows
-- at a port of a node; each port of a switch has the switch's GUID
abbrev pub seen_in : Node → ℕ → Option Seen
seen_in (Switch held) number =
    Some (record {
      node_type = node_type.Switch;
      num_ports = num_ports held;
      node_guid = held.node_guid;
      port_guid = held.node_guid;
      local_port_num = number;
    })
seen_in (Adapter ports) number =
    option_map (λ port. record {
      node_type = node_type.ChannelAdapter;
      num_ports = length ports;
      node_guid = node_guid (Adapter ports);
      port_guid = port.port_guid;
      local_port_num = number;
    })
    (adapter_port ports number)

abbrev pub seen_at : FabricState → PortRef → Option Seen
seen_at fabric at = option_and_then (λ node. seen_in node at.port) (slice_get fabric.nodes at.node)

-- the name of a node, 64 bytes; each port of an adapter holds it
abbrev pub name_in : Node → ℕ → Option (List ℕ)
name_in (Switch held) number = Some held.description
name_in (Adapter ports) number = option_map (λ port. port.description) (adapter_port ports number)

abbrev pub name_at : FabricState → PortRef → Option (List ℕ)
name_at fabric at = option_and_then (λ node. name_in node at.port) (slice_get fabric.nodes at.node)
