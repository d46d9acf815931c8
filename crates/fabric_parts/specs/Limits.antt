-- How big a fabric may be: one that is simulated, and one that is only read.
use Rattle.std.specs.Prelude.{ℕ}
use Rattle.fabric_parts.specs.NodeType.{most_ports}
use Rattle.fabric_parts.specs.declared.limits.Limits.{Limits}
use Rattle.fabric_parts.specs.declared.limits.Limits.TheVariants.{Simulated, Large}
use Rattle.fabric_parts.specs.declared.limits.TheConstants.{ADAPTER_PORTS, LARGE_ADAPTER_PORTS, LARGE_SWITCHES, SWITCHES}
use Rattle.fabric_parts.specs.declared.node_type.NodeType.{NodeType}
use Rattle.fabric_parts.specs.declared.node_type.NodeType.TheVariants.{ChannelAdapter, Switch}

abbrev pub most_switches : Limits → ℕ
most_switches Simulated = SWITCHES
most_switches Large = LARGE_SWITCHES

abbrev pub most_adapter_ports : Limits → ℕ
most_adapter_ports Simulated = ADAPTER_PORTS
most_adapter_ports Large = LARGE_ADAPTER_PORTS

-- a switch that is only read may have every port number, 1 to 254
abbrev pub most_ports_within : Limits → NodeType → ℕ
most_ports_within Simulated node_type = most_ports node_type
most_ports_within Large Switch = 254
most_ports_within Large ChannelAdapter = 8
