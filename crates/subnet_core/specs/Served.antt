-- A fabric under subnet administration: its switches have the masks of the ports that receive what is sent to groups (IBA
-- volume 1, chapters 14 and 15).
use Rattle.std.specs.Prelude.{ℕ, ◌≡◌, ◌==◌, ◌&&◌, not, Bool, List, length}
use Rattle.pkey_rules.specs.declared.key_table.TheConstants.{PARTITIONS}
use Rattle.std.specs.List.{list_any}
use Rattle.fabric_parts.specs.NodeType.{is_switch_type}
use Rattle.partition_file.specs.Sound.{IsSound as ArePartitions}
use Rattle.partition_file.specs.declared.partition.Partition.{Partition}
use Rattle.sa_store.specs.Registry.{RegistryState}
use Rattle.sa_model.specs.Delivery.{is_receiver_of}
use Rattle.sa_model.specs.Groups.{PartitionGroups}
use Rattle.smp_wire.specs.FabricState.{FabricState}
use Rattle.subnet_fabric.specs.Laws.{all_keys}
use Rattle.subnet_fabric.specs.Standing.{IsStanding}
use Rattle.subnet_model.specs.declared.subnet_port.SubnetPort.{SubnetPort}
use Rattle.subnet_fabric.specs.Ports.{configuration_of}
use Rattle.subnet_model.specs.declared.group_receiver.GroupReceiver.{GroupReceiver}
use Rattle.table_push.specs.Masks.{all_masks_pushed}
use Rattle.topo_file.specs.Sound.{IsSound}
use Rattle.topo_file.specs.Topology.{TopologyState}
use Rattle.updn_routes.specs.Subnet.{RoutesState}
use Rattle.subnet_core.specs.MlidRanges.{AreRight}

-- the port of that LID is one of a channel adapter, and receives what is sent to the groups of that MLID
abbrev pub receives_at : List SubnetPort → List PartitionGroups → (mlid lid : ℕ) → Bool
receives_at ports partitions mlid lid =
    list_any (λ port. (port.lid == lid) && (not (is_switch_type port.node_type) && is_receiver_of partitions mlid port.guid)) ports

-- it stands with the keys of these ports, and its masks are those of who receives by these groups
pub record IsServed (plan : TopologyState) (ports : List SubnetPort) (partitions : List PartitionGroups) (routes : RoutesState)
    (fabric : FabricState) : Type 0 where
  pub base : FabricState
  pub stands : IsStanding plan (all_keys ports) routes base
  pub masks : fabric ≡ all_masks_pushed routes (receives_at ports partitions) base

-- a registry serves it: of the subnet of a topology and its partitions
pub record Serves (plan : TopologyState) (routes : RoutesState) (registry : RegistryState) (fabric : FabricState) : Type 0 where
  pub sound : IsSound plan
  pub partitions : List Partition
  pub whole : ArePartitions partitions
  pub configured : registry.configuration ≡ configuration_of partitions plan
  pub served : IsServed plan registry.configuration.ports registry.administration.remembered.partitions routes fabric

-- it is kept for each partition who receives in it, and these receive there by what the registry remembers
pub record IsInformed (registry : RegistryState) (received : List (List GroupReceiver)) : Type 0 where
  pub whole : length received ≡ PARTITIONS
  pub right : AreRight (receives_at registry.configuration.ports registry.administration.remembered.partitions) received
