-- The types of nodes (IBA volume 1, 14.2.5.3), by their codes, and how many ports ours have.
use Rattle.std.specs.Prelude.{ℕ, Bool, true, false}
use Rattle.fabric_parts.specs.declared.node_type.NodeType.{NodeType}
use Rattle.fabric_parts.specs.declared.node_type.NodeType.TheVariants.{ChannelAdapter, Switch}

abbrev pub node_type_code : NodeType → ℕ
node_type_code ChannelAdapter = 1
node_type_code Switch = 2

abbrev pub is_switch_type : NodeType → Bool
is_switch_type Switch = true
is_switch_type ChannelAdapter = false

-- a switch has 1 to 36 ports, a channel adapter 1 to 8
abbrev pub most_ports : NodeType → ℕ
most_ports Switch = 36
most_ports ChannelAdapter = 8
