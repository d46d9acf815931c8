-- The two-switch fabric of our examples, as a subnet manager leaves it.
use Rattle.std.specs.Prelude.{ℕ, ◌+◌, ◌-◌, ◌==◌, ◌&&◌, Bool, true, false, List, [], ◌∷◌, ◌++◌, replicate}
use Rattle.std.specs.List.{list_any}
use Rattle.agent_rules.specs.declared.link.PortLink.{PortLink}
use Rattle.agent_rules.specs.declared.link.PortLink.TheVariants.{Cabled, Uncabled, Internal}
use Rattle.agent_rules.specs.declared.power_up.TheConstants.{LINEAR_TABLE, MULTICAST_TABLE}
use Rattle.agent_rules.specs.PowerUp.{keys_at_power_up, port_info_at_power_up, switch_info_at_power_up}
use Rattle.fabric_parts.specs.declared.cable.Cable.{Cable}
use Rattle.fabric_parts.specs.declared.lid.TheConstants.{FIRST_MULTICAST_LID}
use Rattle.fabric_parts.specs.declared.node_type.NodeType.TheVariants as node_type
use Rattle.switch_model.specs.declared.switch_port.SwitchPort.{SwitchPort}
use Rattle.smp_wire.specs.declared.node.Node.{Node}
use Rattle.smp_wire.specs.declared.node.Node.TheVariants.{Switch, Adapter}
use Rattle.smp_wire.specs.FabricState.{FabricState}

-- the port of a switch of that number, and whether it enforces partitions, both ways
abbrev pub switch_port : ℕ → PortLink → Bool → SwitchPort
switch_port number link enforces =
    record {
      info = record (port_info_at_power_up node_type.Switch number link) {
        partition_enforcement_inbound = enforces;
        partition_enforcement_outbound = enforces;
      };
      keys = keys_at_power_up;
    }

-- a switch with these entries for LIDs 0 to 6, and with these bits of its ports for the first multicast LID: ports 1 and 2
-- have adapters, port 3 the other switch, and port 4 no cable
abbrev pub switch_with : ℕ → List ℕ → ℕ → Node
switch_with guid entries bits =
    Switch (record {
      node_guid = guid;
      description = replicate 64 0;
      info = record switch_info_at_power_up { linear_fdb_top = 6 };
      ports =
          switch_port 0 Internal false
          ∷ switch_port 1 Cabled true
          ∷ switch_port 2 Cabled true
          ∷ switch_port 3 Cabled false
          ∷ switch_port 4 Uncabled false
          ∷ [];
      linear = entries ++ replicate (LINEAR_TABLE - 7) 255;
      masks = (bits ∷ replicate (MULTICAST_TABLE - 1) 0) ∷ replicate 2 (replicate MULTICAST_TABLE 0);
    })

-- an adapter of one port, of that LID
abbrev pub adapter_with : ℕ → ℕ → PortLink → Node
adapter_with guid lid link =
    Adapter (record {
      node_guid = guid;
      num_ports = 1;
      number = 1;
      port_guid = guid + 1;
      description = replicate 64 0;
      info = record (port_info_at_power_up node_type.ChannelAdapter 1 link) { lid = lid };
      keys = keys_at_power_up;
    } ∷ [])

abbrev pub cable : (a b c d : ℕ) → Cable
cable a b c d = record { first = record { node = a; port = b }; second = record { node = c; port = d } }

-- switches A and B at places 0 and 1, joined by their ports 3, and then h0 and h1 on A, h2 and h3 on B, and h4 without a
-- cable. The LIDs are 1 of h0, where the subnet manager runs, 2 of A, 3 of B, and 4, 5 and 6 of h1, h2 and h3. A and B have
-- these bits for the first multicast LID
abbrev pub two_switches_with : (bits_of_a bits_of_b : ℕ) → FabricState
two_switches_with bits_of_a bits_of_b = record {
  nodes =
      switch_with 0x10 (255 ∷ 1 ∷ 0 ∷ 3 ∷ 2 ∷ 3 ∷ 3 ∷ []) bits_of_a
      ∷ switch_with 0x20 (255 ∷ 3 ∷ 3 ∷ 0 ∷ 3 ∷ 1 ∷ 2 ∷ []) bits_of_b
      ∷ adapter_with 0x100 1 Cabled
      ∷ adapter_with 0x110 4 Cabled
      ∷ adapter_with 0x120 5 Cabled
      ∷ adapter_with 0x130 6 Cabled
      ∷ adapter_with 0x140 0 Uncabled
      ∷ [];
  cables = cable 0 1 2 1 ∷ cable 0 2 3 1 ∷ cable 0 3 1 3 ∷ cable 1 1 4 1 ∷ cable 1 2 5 1 ∷ [];
  cut = [];
  manager = record { node = 2; port = 1 };
}

-- what is sent to the first multicast LID the members of its group receive, by their GUIDs
abbrev pub received_by : List ℕ → ℕ → ℕ → Bool
received_by members mlid guid = (mlid == FIRST_MULTICAST_LID) && list_any (λ member. guid == member) members

-- of which h0, h1 and h2 are members
abbrev pub two_switches : FabricState
two_switches = two_switches_with 0b1110 0b1010

abbrev pub receives : ℕ → ℕ → Bool
receives = received_by (0x101 ∷ 0x111 ∷ 0x121 ∷ [])
