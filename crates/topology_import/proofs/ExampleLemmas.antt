-- The texts of topologies, computed.
use Rattle.std.proofs.Common.{◌≡◌, refl, ℕ, true, codes, List, [], ◌∷◌, Ok}
use Rattle.fabric_parts.specs.Cable.{port}
use Rattle.fabric_parts.specs.declared.cable.Cable.{Cable}
use Rattle.fabric_parts.specs.declared.node_type.NodeType.TheVariants.{ChannelAdapter, Switch}
use Rattle.std.specs.Fmt.{digits}
use Rattle.hex.specs.Hex.{encode_with}
use Rattle.step_results.specs.AtLine.{after_lines}
use Rattle.fabric_parts.specs.declared.limits.Limits.TheVariants.{Large}
use Rattle.topo_file.specs.declared.node.Node.{Node}
use Rattle.topo_file.specs.Topology.{TopologyState, after_line, after_words, cable_of, cable_encoded, manager_of, manager_encoded, node_of, node_encoded, topology_within, whole}
use Rattle.topology_import.specs.Agreement.{agrees}
use Rattle.topology_import.specs.Ends.{ends}
use Rattle.topology_import.specs.Examples.{EndsAreCounted, LongNamesAreNumbered, LoopsAreCables, OthersAreRefused, PortsAreImported, SizesAreCompared}
use Rattle.topology_import.specs.Examples.{two_hosts, two_hosts_text, TwoHostsAreImported, two_ports, two_ports_text}
use Rattle.topology_import.specs.Import.{import_of, text_read}
use Rattle.topology_import.specs.Names.{named}
use Rattle.topology_import.specs.Sizes.{lines_of, port_words, switch_words, title, wide_words}
use Rattle.topology_import.specs.Text.{planned_nodes, text_of, text_with}

adapter : List ℕ → ℕ → Node
adapter name guid = record { name = name; node_type = ChannelAdapter; guid = guid; ports = 1 }

cable : ℕ → ℕ → Cable
cable number place = record { first = port 0 number; second = port place 1 }

plan : TopologyState
plan = record {
  nodes = (record { name = codes "leaf__1"; node_type = Switch; guid = 17; ports = 4 }) ∷ adapter (codes "host") 32 ∷ adapter (codes "host-2") 48 ∷ [];
  cables = cable 1 1 ∷ cable 2 2 ∷ [];
  roots = [];
  sm = port 1 1;
}

reported : text_of two_hosts 33 ≡ two_hosts_text
unfolding digits encode_with named text_with
reported = refl

read : topology_within Large two_hosts_text ≡ Ok plan
unfolding adapter after_line after_lines after_words cable cable_of cable_encoded manager_of manager_encoded node_of node_encoded plan topology_within whole
read = refl

agreed : agrees two_hosts (ends two_hosts) (planned_nodes two_hosts) 33 plan ≡ true
unfolding adapter cable digits named plan
agreed = refl

given : text_read two_hosts 33 ≡ Ok two_hosts_text
given = rw (reported, read, agreed) refl

pub two_hosts_are_imported : TwoHostsAreImported
unfolding import_of
two_hosts_are_imported = given

-- ---- of an adapter of two ports
other_plan : TopologyState
other_plan = record {
  nodes = (record { name = codes "a_switch_of_thirty-three_letters"; node_type = Switch; guid = 16; ports = 4 })
      ∷ (record { name = codes "node"; node_type = ChannelAdapter; guid = 256; ports = 2 }) ∷ [];
  cables = (record { first = port 0 1; second = port 1 1 }) ∷ (record { first = port 0 2; second = port 1 2 }) ∷ [];
  roots = [];
  sm = port 1 2;
}

other_reported : text_of two_ports 258 ≡ two_ports_text
unfolding digits encode_with named text_with
other_reported = refl

other_read : topology_within Large two_ports_text ≡ Ok other_plan
unfolding after_line after_lines after_words cable_of cable_encoded manager_of manager_encoded node_of node_encoded other_plan topology_within whole
other_read = refl

other_agreed : agrees two_ports (ends two_ports) (planned_nodes two_ports) 258 other_plan ≡ true
unfolding digits named other_plan
other_agreed = refl

other_given : text_read two_ports 258 ≡ Ok two_ports_text
other_given = rw (other_reported, other_read, other_agreed) refl

pub ports_are_imported : PortsAreImported
unfolding import_of
ports_are_imported = record { asked = other_given; of_a_router = refl; of_none = refl }

pub others_are_refused : OthersAreRefused
unfolding after_line after_lines after_words cable_of cable_encoded digits encode_with import_of manager_of manager_encoded named node_of node_encoded text_with topology_within whole
others_are_refused = record { of_a_node = refl; of_port_0 = refl; of_none = refl; manager_first = refl; too_large = refl; past_its_ports = refl }

pub ends_are_counted : EndsAreCounted
ends_are_counted = record { one = refl; eight = refl; nine = refl; the_eighth = refl; the_ninth = refl; apart = refl; last = refl }

pub long_names_are_numbered : LongNamesAreNumbered
unfolding digits
long_names_are_numbered = record { second = refl; third = refl; tenth = refl }

pub loops_are_cables : LoopsAreCables
loops_are_cables = refl

pub sizes_are_compared : SizesAreCompared
unfolding digits lines_of port_words switch_words title wide_words
sizes_are_compared = record { full = refl; switches = refl; wide = refl; adapter_ports = refl }
