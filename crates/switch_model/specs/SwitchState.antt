-- What a switch holds: whole tables. Blocks are only in the SMPs that read and write them.
use Rattle.std.specs.Prelude.{ℕ, ◌+◌, ◌-◌, List, [], ◌∷◌, length, replicate}
use Rattle.std.specs.List.{All}
use Rattle.mad_layout.specs.Layout.{Fits}
use Rattle.agent_rules.specs.declared.link.PortLink.{PortLink}
use Rattle.agent_rules.specs.declared.link.PortLink.TheVariants.{Internal}
use Rattle.fabric_parts.specs.declared.node_type.NodeType.TheVariants.{Switch}
use Rattle.attr_tables.specs.declared.switch_info.SwitchInfo.{SwitchInfo}
use Rattle.attr_tables.specs.PortInfo.{port_info}
use Rattle.agent_rules.specs.PowerUp.{keys_at_power_up, port_info_at_power_up, switch_info_at_power_up}
use Rattle.switch_model.specs.declared.switch_port.SwitchPort.{SwitchPort}

pub record SwitchState : Type 0 where
  -- that of the node, of its system and of its port 0
  pub node_guid : ℕ
  -- NodeDescription's 64 bytes
  pub description : List ℕ
  pub info : SwitchInfo
  -- from port 0 on, each with its information and its P_Key table
  pub ports : List SwitchPort
  -- for each LID the port that leads there
  pub linear : List ℕ
  -- by position p, for each multicast LID from 0xC000 on the ports 16 p to 16 p + 15, a bit for each
  pub masks : List (List ℕ)

-- NumPorts, in which port 0 is not counted
abbrev pub num_ports : SwitchState → ℕ
num_ports held = length held.ports - 1

-- the information of each port fits its fields
abbrev pub AllFit : List SwitchPort → Type 0
AllFit ports = All (λ port. Fits (port_info port.info)) ports

abbrev pub port_at_power_up : ℕ → PortLink → SwitchPort
port_at_power_up number link =
    record { info = port_info_at_power_up Switch number link; keys = keys_at_power_up }

-- the ports with these links, the first of which has this number
abbrev pub ports_from : ℕ → List PortLink → List SwitchPort
ports_from number [] = []
ports_from number (link ∷ links) = port_at_power_up number link ∷ ports_from (number + 1) links

-- a switch whose ports from 1 on have these links, with tables for so many LIDs and multicast LIDs
abbrev pub at_power_up : ℕ → List ℕ → List PortLink → (lids multicast_lids : ℕ) → SwitchState
at_power_up node_guid description links lids multicast_lids =
    record {
      node_guid = node_guid;
      description = description;
      info = record switch_info_at_power_up { linear_fdb_cap = lids; multicast_fdb_cap = multicast_lids };
      ports = ports_from 0 (Internal ∷ links);
      linear = replicate lids 255;
      masks = replicate 3 (replicate multicast_lids 0);
    }
