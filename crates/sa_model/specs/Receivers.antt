-- Who receives what is sent to the groups of a partition, and in which partitions that changes.
use Rattle.std.specs.Prelude.{ℕ, Bool, not, ◌==◌, ◌&&◌, List, filter, map}
use Rattle.std.specs.List.{flat_map, list_all, list_any}
use Rattle.fabric_parts.specs.NodeType.{is_switch_type}
use Rattle.subnet_model.specs.declared.group_receiver.GroupReceiver.{GroupReceiver}
use Rattle.subnet_model.specs.declared.subnet_port.SubnetPort.{SubnetPort}
use Rattle.sa_model.specs.Delivery.{receives}
use Rattle.sa_model.specs.Groups.{MulticastGroup, PartitionGroups}

-- a port of a channel adapter that takes part in the group as one that receives
abbrev pub receives_group : MulticastGroup → SubnetPort → Bool
receives_group group port = not (is_switch_type port.node_type) && list_any (receives port.guid) group.memberships

-- those of a group, by LID as the ports stand
abbrev pub group_receivers : List SubnetPort → MulticastGroup → List GroupReceiver
group_receivers ports group = map (λ port. record { mlid = group.mlid; lid = port.lid }) (filter (receives_group group) ports)

-- those of the groups of a partition, by MLID as the groups stand, and then by LID
abbrev pub receivers_in : List SubnetPort → PartitionGroups → List GroupReceiver
receivers_in ports partition = flat_map (group_receivers ports) partition.groups

-- those of the partition of a number
abbrev pub receivers_of : List SubnetPort → ℕ → List PartitionGroups → List GroupReceiver
receivers_of ports number partitions = flat_map (receivers_in ports) (filter (λ partition. partition.number == number) partitions)

-- ---- two lists have the same receivers
abbrev pub is_same_receiver : GroupReceiver → GroupReceiver → Bool
is_same_receiver a b = (a.mlid == b.mlid) && (a.lid == b.lid)

abbrev pub is_among : List GroupReceiver → GroupReceiver → Bool
is_among all one = list_any (is_same_receiver one) all

abbrev pub are_same_receivers : List GroupReceiver → List GroupReceiver → Bool
are_same_receivers before after = list_all (is_among after) before && list_all (is_among before) after

-- the numbers of the partitions whose receivers are others after than before, in the order of the partitions
abbrev pub changed_numbers : List SubnetPort → List PartitionGroups → List PartitionGroups → List ℕ
changed_numbers ports before after =
    filter (λ number. not (are_same_receivers (receivers_of ports number before) (receivers_of ports number after)))
    (map (λ partition. partition.number) before)
