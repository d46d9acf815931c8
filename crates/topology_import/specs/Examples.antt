-- Fabrics, and their topologies: a switch and two adapters of one name, and one adapter of two ports beside a router.
use Rattle.std.specs.Prelude.{ℕ, ◌≡◌, ◌+◌, List, [], ◌∷◌, codes, map, replicate, Some, None, Ok, Err}
use Rattle.std.specs.List.{range_with_len}
use Rattle.fabric_parts.specs.Cable.{port}
use Rattle.fabric_parts.specs.declared.node_type.NodeType.{NodeType}
use Rattle.fabric_parts.specs.declared.node_type.NodeType.TheVariants as node_type
use Rattle.netdiscover_file.specs.declared.kind.NodeKind.TheVariants.{ChannelAdapter, Router, Switch}
use Rattle.netdiscover_file.specs.declared.node.Node.{Node}
use Rattle.netdiscover_file.specs.declared.port.PortLine.{PortLine}
use Rattle.netdiscover_file.specs.Discovery.{DiscoveryState}
use Rattle.topo_file.specs.declared.fault.TopologyCause.TheVariants as topology
use Rattle.topology_import.specs.declared.fault.ImportCause.TheVariants.{GuidTaken, Refused, UnknownManager}
use Rattle.topology_import.specs.declared.planned.Planned.{Planned}
use Rattle.topology_import.specs.Cables.{cables_meant}
use Rattle.topology_import.specs.Ends.{number_of, ports_from}
use Rattle.topology_import.specs.Import.{import_of}
use Rattle.topology_import.specs.Names.{numbered, own_name}
use Rattle.topology_import.specs.Sizes.{size_lines}

abbrev pub leaf : Node
leaf = record { id = record { kind = Switch; guid = 16 }; ports = 4; name = codes "leaf; 1"; lid = Some 3; port_guid = Some 17; line = 3 }

abbrev pub host : ℕ → ℕ → Node
host guid line = record { id = record { kind = ChannelAdapter; guid = guid }; ports = 1; name = codes "host"; lid = None; port_guid = None; line = line }

-- the line of a port of the switch, and that of the port of an adapter, whose GUID is one above the adapter's
abbrev pub down : ℕ → ℕ → ℕ → PortLine
down number guid line = record {
  port = port 0 number;
  guid = None;
  lid = None;
  far = record { node = record { kind = ChannelAdapter; guid = guid }; port = 1; guid = Some (guid + 1) };
  line = line;
}

abbrev pub up : ℕ → ℕ → ℕ → ℕ → PortLine
up place guid number line = record {
  port = port place 1;
  guid = Some (guid + 1);
  lid = Some place;
  far = record { node = record { kind = Switch; guid = 16 }; port = number; guid = None };
  line = line;
}

abbrev pub two_hosts : DiscoveryState
two_hosts = record {
  nodes = leaf ∷ host 32 6 ∷ host 48 8 ∷ [];
  ports = down 1 32 4 ∷ down 2 48 5 ∷ up 1 32 1 7 ∷ up 2 48 2 9 ∷ [];
  initiator = Some 33;
}

abbrev pub two_hosts_text : List ℕ
two_hosts_text = codes "# fabric import, from ibnetdiscover at port 0x0000000000000021\nswitch leaf__1 0x0000000000000011 4 # \"leaf; 1\" lid 3\nadapter host 0x0000000000000020 1 # \"host\" port 1 lid 1\nadapter host-2 0x0000000000000030 1 # \"host\" port 1 lid 2\ncable leaf__1/1 host/1\ncable leaf__1/2 host-2/1\nsm host/1\n"

abbrev pub TwoHostsAreImported : Type 0
TwoHostsAreImported = import_of two_hosts None ≡ Ok two_hosts_text

-- ---- a switch with a name of 33 bytes, of which the GUID of port 0 is not reported, an adapter of two ports that has no name, and a
-- router
abbrev pub spine : Node
spine = record { id = record { kind = Switch; guid = 16 }; ports = 4; name = codes "a switch of thirty-three letters."; lid = Some 3; port_guid = None; line = 2 }

abbrev pub gate : Node
gate = record { id = record { kind = Router; guid = 512 }; ports = 1; name = codes "gate"; lid = None; port_guid = None; line = 9 }

abbrev pub to_gate : PortLine
to_gate = record {
  port = port 0 3;
  guid = None;
  lid = None;
  far = record { node = record { kind = Router; guid = 512 }; port = 1; guid = Some 513 };
  line = 5;
}

abbrev pub two_ports : DiscoveryState
two_ports = record {
  nodes = spine ∷ record (host 256 6) { ports = 2; name = [] } ∷ gate ∷ [];
  ports = down 1 256 3
      ∷ record (down 2 256 4) { far = record { node = record { kind = ChannelAdapter; guid = 256 }; port = 2; guid = Some 258 } }
      ∷ to_gate ∷ up 1 256 1 7 ∷ record (up 1 256 2 8) { port = port 1 2; guid = Some 258; lid = Some 2 } ∷ up 2 512 3 10 ∷ [];
  initiator = None;
}

abbrev pub two_ports_text : List ℕ
two_ports_text = codes "# fabric import, from ibnetdiscover\nswitch a_switch_of_thirty-three_letters 0x0000000000000010 4 # \"a switch of thirty-three letters.\" lid 3\nadapter node 0x0000000000000100 2 # \"\" port 1 lid 1; \"\" port 2 lid 2\ncable a_switch_of_thirty-three_letters/1 node/1\ncable a_switch_of_thirty-three_letters/2 node/2\nsm node/2\n# router \"gate\" 0x0000000000000200 is left out\n"

pub record PortsAreImported : Type 0 where
  -- the subnet manager is on the port that is asked for
  pub asked : import_of two_ports (Some 258) ≡ Ok two_ports_text
  -- a router's port is none, and if nothing is asked for and the text reports none there is none
  pub of_a_router : import_of two_ports (Some 513) ≡ Err (record { line = 0; cause = UnknownManager })
  pub of_none : import_of two_ports None ≡ Err (record { line = 0; cause = UnknownManager })

-- ---- an adapter that would have the GUID of a switch, or of its port 0; and fabrics that no topology may have, reported with the line
-- of the switch or of the cable
abbrev pub one_host : ℕ → DiscoveryState
one_host guid = record { nodes = leaf ∷ host guid 6 ∷ []; ports = down 1 guid 4 ∷ up 1 guid 1 7 ∷ []; initiator = Some (guid + 1) }

pub record OthersAreRefused : Type 0 where
  pub of_a_node : import_of (one_host 16) None ≡ Err (record { line = 7; cause = GuidTaken 17 16 })
  pub of_port_0 : import_of (one_host 17) None ≡ Err (record { line = 7; cause = GuidTaken 18 17 })
  pub of_none : import_of (one_host 0) None ≡ Err (record { line = 7; cause = GuidTaken 1 0 })
  -- no port for the subnet manager is reported first
  pub manager_first : import_of (record (one_host 16) { initiator = None }) None ≡ Err (record { line = 0; cause = UnknownManager })
  pub too_large : import_of (record (one_host 32) { nodes = record leaf { ports = 255 } ∷ host 32 6 ∷ [] }) None
      ≡ Err (record { line = 3; cause = Refused topology.Malformed })
  pub past_its_ports : import_of (record (one_host 32) { ports = down 5 32 4 ∷ up 1 32 5 7 ∷ [] }) None
      ≡ Err (record { line = 4; cause = Refused topology.NoSuchPort })

-- ---- so many ports of GUIDs that follow one another, from 257 on, are those of one adapter; of more than 8 there is none
abbrev pub some_ends : ℕ → List PortLine
some_ends count = map (λ before. up 1 (256 + before) 1 7) (range_with_len 0 count)

pub record EndsAreCounted : Type 0 where
  pub one : ports_from (some_ends 1) 257 ≡ 1
  pub eight : ports_from (some_ends 8) 257 ≡ 8
  pub nine : ports_from (some_ends 9) 257 ≡ 9
  pub the_eighth : number_of (some_ends 8) 264 ≡ 8
  pub the_ninth : number_of (some_ends 9) 265 ≡ 9
  pub apart : number_of (up 1 256 1 7 ∷ up 1 258 1 7 ∷ []) 259 ≡ 1
  pub last : ports_from (up 1 0xfffffffffffffffe 1 7 ∷ []) 0xffffffffffffffff ≡ 1

-- ---- names of 32 bytes, of which the number takes the last
abbrev pub long_name : List ℕ
long_name = codes "a_switch_of_thirty-three_letters"

abbrev pub a_node : List ℕ → NodeType → ℕ → Planned
a_node name node_type ports = record { name = name; node_type = node_type; guid = 1; ports = ports; node = 0; line = 1 }

abbrev pub named_so : List ℕ → Planned
named_so name = a_node name node_type.Switch 4

pub record LongNamesAreNumbered : Type 0 where
  pub second : own_name (named_so long_name ∷ []) long_name ≡ codes "a_switch_of_thirty-three_lette-2"
  pub third : own_name (named_so long_name ∷ named_so (codes "a_switch_of_thirty-three_lette-2") ∷ []) long_name
      ≡ codes "a_switch_of_thirty-three_lette-3"
  pub tenth : numbered long_name 10 ≡ codes "a_switch_of_thirty-three_lett-10"

-- ---- a cable between two ports of one switch is one cable, from the line of the first
abbrev pub looped : ℕ → ℕ → ℕ → PortLine
looped number other line = record (down number 16 line) { far = record { node = record { kind = Switch; guid = 16 }; port = other; guid = None } }

abbrev pub LoopsAreCables : Type 0
LoopsAreCables =
    cables_meant (record { nodes = leaf ∷ []; ports = looped 3 4 5 ∷ looped 4 3 6 ∷ []; initiator = None })
    ≡ (record { first = record { guid = 17; port = 3 }; second = record { guid = 17; port = 4 }; line = 5 }) ∷ []

-- ---- fabrics that are as large as one that is simulated, or just larger
abbrev pub a_switch : ℕ → Planned
a_switch ports = a_node [] node_type.Switch ports

pub record SizesAreCompared : Type 0 where
  pub full : size_lines (replicate 64 (a_switch 36)) 256 ≡ []
  pub switches : size_lines (replicate 65 (a_switch 36)) 1
      ≡ codes "# too large to be simulated: 65 switches (at most 64), 0 of them of more than 36 ports, 1 CA ports (at most 256)\n# audit, audit-keys, shares and diff take it\n"
  pub wide : size_lines (a_node [] node_type.ChannelAdapter 37 ∷ a_switch 37 ∷ a_switch 36 ∷ []) 9
      ≡ codes "# too large to be simulated: 2 switches (at most 64), 1 of them of more than 36 ports, 9 CA ports (at most 256)\n# audit, audit-keys, shares and diff take it\n"
  pub adapter_ports : size_lines [] 257
      ≡ codes "# too large to be simulated: 0 switches (at most 64), 0 of them of more than 36 ports, 257 CA ports (at most 256)\n# audit, audit-keys, shares and diff take it\n"
