-- Roots of a small fabric: two leaves, each with a host, and two spines over them. Port 0 of each switch has a GUID of its own.
use Rattle.std.specs.Prelude.{ℕ, ◌≡◌, ◌+◌, List, [], ◌∷◌, ◌++◌, codes, None, Ok, Some}
use Rattle.fabric_parts.specs.Cable.{port}
use Rattle.netdiscover_file.specs.declared.kind.NodeKind.TheVariants.{ChannelAdapter, Switch}
use Rattle.netdiscover_file.specs.declared.node.Node.{Node}
use Rattle.netdiscover_file.specs.declared.port.PortLine.{PortLine}
use Rattle.netdiscover_file.specs.Discovery.{DiscoveryState}
use Rattle.rooted_import.specs.Rooted.{unlike, with_roots}
use Rattle.rooted_import.specs.Roots.{top_guids}

-- ---- the discovery
abbrev pub a_switch : (letter guid : ℕ) → Node
a_switch letter guid = record {
  id = record { kind = Switch; guid = guid };
  ports = 3;
  name = letter ∷ [];
  lid = None;
  port_guid = Some (guid + 1);
  line = 1;
}

abbrev pub a_host : (letter guid : ℕ) → Node
a_host letter guid = record (a_switch letter guid) { id = record { kind = ChannelAdapter; guid = guid }; port_guid = None }

-- the line of a port of a switch, which leads to a port of one; and those of a leaf's first port and of the host there
abbrev pub link : (place number guid other : ℕ) → PortLine
link place number guid other = record {
  port = port place number;
  guid = None;
  lid = None;
  far = record { node = record { kind = Switch; guid = guid }; port = other; guid = None };
  line = 1;
}

abbrev pub down : (place guid : ℕ) → PortLine
down place guid =
    record (link place 1 16 1) { far = record { node = record { kind = ChannelAdapter; guid = guid }; port = 1; guid = Some (guid + 1) } }

abbrev pub up : (place own guid : ℕ) → PortLine
up place own guid = record (link place 1 guid 1) { guid = Some (own + 1) }

-- the leaves are A and B, the hosts h and k, and the spines S and T
abbrev pub leaf_and_spine : DiscoveryState
leaf_and_spine = record {
  nodes = a_switch 65 16 ∷ a_switch 83 64 ∷ a_host 104 256 ∷ a_switch 66 32 ∷ a_switch 84 80 ∷ a_host 107 512 ∷ [];
  ports = down 0 256 ∷ link 0 2 64 1 ∷ link 0 3 80 1
      ∷ link 1 1 16 2 ∷ link 1 2 32 2
      ∷ up 2 256 16
      ∷ down 3 512 ∷ link 3 2 64 2 ∷ link 3 3 80 2
      ∷ link 4 1 16 3 ∷ link 4 2 32 3
      ∷ up 5 512 32 ∷ [];
  initiator = Some 257;
}

-- both spines are farthest from hosts; a topology has them under the GUIDs of their ports 0
abbrev pub SpinesAreTops : Type 0
SpinesAreTops = top_guids leaf_and_spine ≡ 65 ∷ 81 ∷ []

-- ---- the topology of three switches, with a line for each root in the order of its nodes
abbrev pub three : List ℕ
three = codes "switch A 0x11 2\nswitch S 0x41 2\nadapter h 0x100 1\nswitch T 0x51 2\ncable A/1 h/1\ncable A/2 S/1\ncable S/2 T/1\nsm h/1\n"

pub record RootsAreAdded : Type 0 where
  pub two : with_roots (81 ∷ 65 ∷ []) three ≡ Ok (three ++ codes "root S\nroot T\n")
  pub one : with_roots (81 ∷ []) three ≡ Ok (three ++ codes "root T\n")
  pub none : with_roots [] three ≡ Ok three
  -- an adapter is no root, and a switch that is not there is missed
  pub of_a_host : with_roots (256 ∷ []) three ≡ unlike
  pub of_nobody : with_roots (65 ∷ 99 ∷ []) three ≡ unlike
