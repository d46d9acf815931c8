-- What is so of every discovery that was read, whatever its text.
use Rattle.std.specs.Prelude.{ℕ, ◌≡◌, Bool, true, ◌==◌, ◌&&◌, nat_eq, nat_le, List, ◌++◌, flat_map, option_to_list}
use Rattle.std.specs.List.{list_all, list_any, IsDistinct}
use Rattle.fabric_parts.specs.declared.cable.PortRef.{PortRef}
use Rattle.fabric_parts.specs.Cable.{is_same_port}
use Rattle.netdiscover_file.specs.declared.node.Node.{Node}
use Rattle.netdiscover_file.specs.declared.port.PortLine.{PortLine}
use Rattle.netdiscover_file.specs.Agreement.{is_one_cable, stands_at_both_ends}
use Rattle.netdiscover_file.specs.Discovery.{DiscoveryState}
use Rattle.netdiscover_file.specs.Node.{is_switch_at, ports_at}
use Rattle.netdiscover_file.specs.Port.{is_reported}
use Rattle.netdiscover_file.specs.Lids.{owns}

-- both nodes have one GUID
abbrev pub shares_guid : Node → Node → Bool
shares_guid a b = a.id.guid == b.id.guid

-- both lines are of one port
abbrev pub shares_port : PortLine → PortLine → Bool
shares_port a b = is_same_port a.port b.port

-- the GUIDs of all ports: of switches' ports 0, and of the ports of adapters and routers that have lines
abbrev pub port_guids : List Node → List PortLine → List ℕ
port_guids nodes ports = flat_map (λ node. option_to_list node.port_guid) nodes ++ flat_map (λ line. option_to_list line.guid) ports

-- the node there has this port
abbrev pub is_port : List Node → PortRef → Bool
is_port nodes port = nat_le 1 port.port && nat_le port.port (ports_at nodes port.node)

-- a port of an adapter or a router has a GUID and a LID of its own, one of a switch has neither
abbrev pub has_own : List Node → PortLine → Bool
has_own nodes line = owns (is_switch_at nodes line.port.node) line.guid line.lid

-- each line is of a port of a node, no two nodes or ports share a GUID, and no two lines a port
pub record AreSound (nodes : List Node) (ports : List PortLine) : Type 0 where
  pub own_nodes : IsDistinct shares_guid nodes
  pub own_lines : IsDistinct shares_port ports
  pub own_guids : IsDistinct nat_eq (port_guids nodes ports)
  pub are_ports : list_all (λ line. is_port nodes line.port) ports ≡ true
  pub have_own : list_all (has_own nodes) ports ≡ true

-- what stands after each line: the GUIDs of all ports are noted
pub record IsSoundSoFar (nodes : List Node) (ports : List PortLine) (noted : List ℕ) : Type 0 where
  pub lines : AreSound nodes ports
  pub all_noted : list_all (λ guid. is_reported guid noted) (port_guids nodes ports) ≡ true

-- some line leads back: the far end of each of the two is the port of the other
abbrev pub has_other_end : List Node → List PortLine → PortLine → Bool
has_other_end nodes ports line = list_any (is_one_cable nodes line) ports

-- what stands of the whole: each cable has both its ends, and each is found from the other by GUID and number
pub record IsSound (discovery : DiscoveryState) : Type 0 where
  pub lines : AreSound discovery.nodes discovery.ports
  pub cables : list_all (has_other_end discovery.nodes discovery.ports) discovery.ports ≡ true
  pub found : list_all (stands_at_both_ends discovery.nodes discovery.ports) discovery.ports ≡ true
