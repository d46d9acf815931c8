-- What a port can be shown, in the order in which it is shown.
use Rattle.std.specs.Prelude.{ℕ, Bool, ◌==◌, ◌||◌, List, filter, map}
use Rattle.std.specs.List.{flat_map}
use Rattle.pkey_rules.specs.KeyTable.{accepts, shares}
use Rattle.sa_model.specs.Members.{is_in}
use Rattle.subnet_model.specs.declared.subnet_port.SubnetPort.{SubnetPort}
use Rattle.sa_model.specs.Groups.{MulticastGroup, PartitionGroups}
use Rattle.sa_model.specs.KeyOrder.{by_base}
use Rattle.sa_model.specs.Services.{Service, PortServices}
use Rattle.sa_model.specs.ServiceSight.{services_seen}

-- what subnet administration remembers, beside the ports: the groups of the partitions, and the services
pub record SaState : Type 0 where
  pub partitions : List PartitionGroups
  pub services : List PortServices

-- ---- nodes: the ports that share a partition with the port, and itself, as they stand, by LID
abbrev pub may_know : SubnetPort → SubnetPort → Bool
may_know own other = (other.guid == own.guid) || shares own.keys other.keys

abbrev pub visible_nodes : List SubnetPort → SubnetPort → List SubnetPort
visible_nodes ports own = filter (may_know own) ports

-- ---- paths: to each port, itself too, under each key of its own that the other port accepts, by base
pub record Path : Type 0 where
  pub origin : SubnetPort
  pub destination : SubnetPort
  pub key : ℕ

abbrev pub keys_to : SubnetPort → SubnetPort → List ℕ
keys_to own other = filter (λ key. accepts key other.keys) (by_base own.keys)

abbrev pub paths_under : List ℕ → SubnetPort → SubnetPort → List Path
paths_under keys own other = map (λ key. record { origin = own; destination = other; key = key }) keys

abbrev pub paths_to : SubnetPort → SubnetPort → List Path
paths_to own other = paths_under (keys_to own other) own other

abbrev pub visible_paths : List SubnetPort → SubnetPort → List Path
visible_paths ports own = flat_map (paths_to own) ports

-- ---- groups: those of its partitions, by MLID
pub record GroupOfBase : Type 0 where
  pub base : ℕ
  pub group : MulticastGroup

abbrev pub groups_of : PartitionGroups → List GroupOfBase
groups_of partition = map (λ group. record { base = partition.base; group = group }) partition.groups

abbrev pub visible_groups : SubnetPort → List PartitionGroups → List GroupOfBase
visible_groups own partitions = flat_map groups_of (filter (λ partition. is_in own partition.base) partitions)

-- ---- services: its own, and those that a port offers in a partition that they share, by LID, base and ServiceID
pub record ServiceOfPort : Type 0 where
  pub port : ℕ
  pub base : ℕ
  pub service : Service

abbrev pub services_of : PortServices → List ServiceOfPort
services_of place = map (λ service. record { port = place.port; base = place.base; service = service }) place.services

abbrev pub visible_services : List SubnetPort → SubnetPort → List PortServices → List ServiceOfPort
visible_services ports own services = flat_map services_of (services_seen ports own.guid services)
