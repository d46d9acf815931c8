-- The ports of a subnet as a registry is given them, and the configuration that they make with their keys.
use Rattle.std.specs.Prelude.{ℕ, List, [], ◌∷◌}
use Rattle.partition_file.specs.Members.{Membership}
use Rattle.subnet_model.specs.Configuration.{ConfigurationState}
use Rattle.subnet_model.specs.declared.subnet_port.SubnetPort.{SubnetPort}
use Rattle.sa_store.specs.declared.node_port.NodePort.{NodePort}

-- the port with the keys that it holds
abbrev pub with_keys : NodePort → List ℕ → SubnetPort
with_keys port keys = record {
  lid = port.lid;
  guid = port.guid;
  node_name = port.node_name;
  node_guid = port.node_guid;
  num_ports = port.num_ports;
  number = port.number;
  node_type = port.node_type;
  keys = keys;
}

-- each port with its keys, as both stand
abbrev pub all_with_keys : List NodePort → List (List ℕ) → List SubnetPort
all_with_keys (port ∷ ports) (keys ∷ more) = with_keys port keys ∷ all_with_keys ports more
all_with_keys _ _ = []

abbrev pub configured : List NodePort → Membership → ConfigurationState
configured ports members = record { ports = all_with_keys ports members.keys; partitions = members.headings }
