-- A linear forwarding table and two multicast forwarding tables, each once as a whole text beside the parts that make it.
use Rattle.std.specs.Prelude.{ℕ, ◌≡◌, ◌-◌, List, [], ◌∷◌, ◌++◌, codes, length, replicate}
use Rattle.agent_rules.specs.PowerUp.{switch_info_at_power_up}
use Rattle.agent_rules.specs.declared.link.PortLink.TheVariants.{Cabled, Internal}
use Rattle.agent_rules.specs.declared.power_up.TheConstants.{MULTICAST_TABLE}
use Rattle.fabric_parts.specs.declared.node_type.NodeType.TheVariants as node_type
use Rattle.fabric_tables.specs.Multicast.{table_text}
use Rattle.fabric_tables.specs.Tables.{table_text as linear_text}
use Rattle.subnet_model.specs.declared.subnet_port.SubnetPort.{SubnetPort}
use Rattle.switch_model.specs.SwitchState.{SwitchState, ports_from}

-- the end port of a switch
abbrev pub end_port : List ℕ → (guid lid num_ports : ℕ) → SubnetPort
end_port name guid lid num_ports =
    record {
      lid = lid;
      guid = guid;
      node_name = name;
      node_guid = guid;
      num_ports = num_ports;
      number = 0;
      node_type = node_type.Switch;
      keys = [];
    }

-- a switch of so many ports with these masks of its first ports; those of the LIDs behind them are 0
abbrev pub switch_with : (guid num_ports : ℕ) → List ℕ → SwitchState
switch_with guid num_ports bits =
    record {
      node_guid = guid;
      description = [];
      info = switch_info_at_power_up;
      ports = ports_from 0 (Internal ∷ replicate num_ports Cabled);
      linear = [];
      masks = (bits ++ replicate (MULTICAST_TABLE - length bits) 0) ∷ replicate 2 (replicate MULTICAST_TABLE 0);
    }

-- a switch of so many ports with these entries for the first LIDs, of which those up to 0x1a2 count
abbrev pub led_by : (guid num_ports : ℕ) → List ℕ → SwitchState
led_by guid num_ports entries =
    record (switch_with guid num_ports []) { info = record switch_info_at_power_up { linear_fdb_top = 0x1a2 }; linear = entries }

-- port 1 of an adapter
abbrev pub adapter_port : List ℕ → (guid lid : ℕ) → SubnetPort
adapter_port name guid lid = record (end_port name guid lid 1) { number = 1; node_type = node_type.ChannelAdapter }

-- a text and the end of its line
abbrev pub ended : List ℕ → List ℕ
ended text = text ++ 10 ∷ []

-- the table of B, found by ports 1 and 3, by whose ports 3 and 123 are h0 and A. It leads to none of the LIDs 3 and 5
abbrev pub LinearTableIsWhole : Type 0
LinearTableIsWhole =
    linear_text (record { guid = 0x20; num_ports = 123; name = []; path = 1 ∷ 3 ∷ [] } ∷ [])
    (adapter_port (codes "h0") 0x101 1
    ∷ end_port (codes "B") 0x20 2 123 ∷ adapter_port (codes "h1") 0x111 3 ∷ end_port (codes "A") 0xabc 4 4 ∷ adapter_port (codes "h2") 0x121 5 ∷ [])
    (end_port (codes "B") 0x20 2 123) (led_by 0x20 123 (255 ∷ 3 ∷ 0 ∷ 124 ∷ 123 ∷ []))
    ≡ ended (codes "Unicast lids [0x0-0x1a2] of switch DR path slid 0; dlid 0; 0,1,3 guid 0x0000000000000020 (B):")
    ++ ended (codes "  Lid  Out   Destination")
    ++ ended (codes "       Port     Info ")
    ++ ended (codes "0x0001 003 : (Channel Adapter portguid 0x0000000000000101: 'h0')")
    ++ ended (codes "0x0002 000 : (Switch portguid 0x0000000000000020: 'B')")
    ++ ended (codes "0x0004 123 : (Switch portguid 0x0000000000000abc: 'A')")
    ++ ended (codes "3 valid lids dumped ")

pub record TablesAreWhole : Type 0 where
  pub linear : LinearTableIsWhole
  pub four_ports : table_text (1 ∷ 3 ∷ []) (end_port (codes "B") 0x20 3 4) (switch_with 0x20 4 (0b01100 ∷ 0 ∷ 0b01010 ∷ []))
      ≡ ended (codes "Multicast mlids [0xc000-0xcfff] of switch DR path slid 0; dlid 0; 0,1,3 guid 0x0000000000000020 (B):")
      ++ ended (codes "     Ports: 0 1 2 3 4 ")
      ++ ended (codes " MLid")
      ++ ended (codes "0xc000          x x   ")
      ++ ended (codes "0xc002        x   x   ")
      ++ ended (codes "2 valid mlids dumped ")
  -- a bit of a port that the switch does not have is ignored
  pub twelve_ports : table_text (1 ∷ []) (end_port (codes "A") 0x10 2 12) (switch_with 0x10 12 (0b10000000000000 ∷ 0b11010000000101 ∷ []))
      ≡ ended (codes "Multicast mlids [0xc000-0xcfff] of switch DR path slid 0; dlid 0; 0,1 guid 0x0000000000000010 (A):")
      ++ ended (codes "            0                   1     ")
      ++ ended (codes "     Ports: 0 1 2 3 4 5 6 7 8 9 0 1 2 ")
      ++ ended (codes " MLid")
      ++ ended (codes "0xc001      x   x               x   x ")
      ++ ended (codes "1 valid mlids dumped ")
  pub no_port : table_text [] (end_port (codes "A") 0x10 2 4) (switch_with 0x10 4 (0 ∷ 0b100000 ∷ [])) ≡ []
