-- What one port of a channel adapter holds.
use Rattle.std.specs.Prelude.{ℕ, List}
use Rattle.agent_rules.specs.declared.link.PortLink.{PortLink}
use Rattle.fabric_parts.specs.declared.node_type.NodeType.TheVariants.{ChannelAdapter}
use Rattle.attr_tables.specs.declared.port_info.PortInfo.{PortInfo}
use Rattle.agent_rules.specs.PowerUp.{keys_at_power_up, port_info_at_power_up}

pub record AdapterState : Type 0 where
  pub node_guid : ℕ
  -- how many ports the adapter has, and which of them this is
  pub num_ports : ℕ
  pub number : ℕ
  pub port_guid : ℕ
  -- NodeDescription's 64 bytes
  pub description : List ℕ
  pub info : PortInfo
  -- the words of the P_Key table as they were written
  pub keys : List ℕ

abbrev pub at_power_up : (node_guid num_ports number port_guid : ℕ) → List ℕ → PortLink → AdapterState
at_power_up node_guid num_ports number port_guid description link =
    record {
      node_guid = node_guid;
      num_ports = num_ports;
      number = number;
      port_guid = port_guid;
      description = description;
      info = port_info_at_power_up ChannelAdapter number link;
      keys = keys_at_power_up;
    }
