-- Ports for worked examples.
use Rattle.std.specs.Prelude.{ℕ, List, [], ◌∷◌}
use Rattle.fabric_parts.specs.declared.node_type.NodeType.TheVariants.{ChannelAdapter}
use Rattle.subnet_model.specs.declared.subnet_port.SubnetPort.{SubnetPort}

-- the one port of a channel adapter, whose node has the same GUID
abbrev pub adapter : ℕ → ℕ → List ℕ → SubnetPort
adapter lid guid keys = record {
  lid = lid;
  guid = guid;
  node_name = [];
  node_guid = guid;
  num_ports = 1;
  number = 1;
  node_type = ChannelAdapter;
  keys = keys;
}

-- two that share no partition
abbrev pub two_tenants : List SubnetPort
two_tenants = adapter 4 0x111 (0x8001 ∷ []) ∷ adapter 5 0x121 (0x8002 ∷ []) ∷ []
