-- The topology of our examples: two switches A and B, joined by a cable, and four channel adapters.
use Rattle.std.specs.Prelude.{ℕ, List, [], ◌∷◌, codes}
use Rattle.fabric_parts.specs.declared.cable.Cable.{Cable}
use Rattle.fabric_parts.specs.declared.cable.PortRef.{PortRef}
use Rattle.topo_file.specs.declared.node.Node.{Node}
use Rattle.fabric_parts.specs.declared.node_type.NodeType.TheVariants as node_type
use Rattle.fabric_parts.specs.Cable.{port}
use Rattle.topo_file.specs.Topology.{TopologyState}

abbrev pub switch_of_four : List ℕ → ℕ → Node
switch_of_four name guid = record { name = name; node_type = node_type.Switch; guid = guid; ports = 4 }

abbrev pub adapter_of_one : List ℕ → ℕ → Node
adapter_of_one name guid = record { name = name; node_type = node_type.ChannelAdapter; guid = guid; ports = 1 }

abbrev pub cable : PortRef → PortRef → Cable
cable first second = record { first = first; second = second }

-- the subnet manager runs on h0; no line names a root
abbrev pub two_switches : TopologyState
two_switches = record {
  nodes =
      switch_of_four (codes "A") 16
      ∷ switch_of_four (codes "B") 32
      ∷ adapter_of_one (codes "h0") 256
      ∷ adapter_of_one (codes "h1") 272
      ∷ adapter_of_one (codes "h2") 288
      ∷ adapter_of_one (codes "h3") 304
      ∷ [];
  cables =
      cable (port 0 1) (port 2 1)
      ∷ cable (port 0 2) (port 3 1)
      ∷ cable (port 0 3) (port 1 3)
      ∷ cable (port 1 1) (port 4 1)
      ∷ cable (port 1 2) (port 5 1)
      ∷ [];
  roots = [];
  sm = port 2 1;
}
