-- What holds of the receivers of groups.
use Rattle.std.specs.Prelude.{ℕ, ◌≡◌, Bool, true, false, not, ◌==◌, ◌&&◌, ◌||◌, nat_lt, List, [], Some}
use Rattle.std.specs.List.{flat_map, list_all, list_any}
use Rattle.step_results.specs.Truth.{same_answer}
use Rattle.fabric_parts.specs.NodeType.{is_switch_type}
use Rattle.subnet_model.specs.Configured.{HaveLidsInOrder}
use Rattle.subnet_model.specs.Delivery.{port_with_guid}
use Rattle.subnet_model.specs.declared.group_receiver.GroupReceiver.{GroupReceiver}
use Rattle.subnet_model.specs.declared.subnet_port.SubnetPort.{SubnetPort}
use Rattle.sa_model.specs.Delivery.{is_receiver_of}
use Rattle.sa_model.specs.Groups.{PartitionGroups}
use Rattle.sa_model.specs.Joining.{Join, joined}
use Rattle.sa_model.specs.Receivers.{changed_numbers, is_among, receivers_in, receivers_of}
use Rattle.sa_model.specs.Sound.{is_in_range, is_sound_partition, pairwise}

-- ---- they are the ports that packets to the groups reach: of a channel adapter's port the LID stands in the list under an
-- MLID if and only if it is a receiver of that MLID
-- (a rule lists the receivers of a partition)
abbrev pub ReceiverRule : Type 0
ReceiverRule = List SubnetPort → PartitionGroups → List GroupReceiver

abbrev pub ReceiversAreReachedBy : ReceiverRule → Type 0
ReceiversAreReachedBy rule =
    (ports : List SubnetPort) (partitions : List PartitionGroups) (mlid : ℕ) (port : SubnetPort) → HaveLidsInOrder ports
    → port_with_guid ports port.guid ≡ Some port → is_switch_type port.node_type ≡ false
    → is_among (flat_map (rule ports) partitions) (record { mlid = mlid; lid = port.lid }) ≡ is_receiver_of partitions mlid port.guid

abbrev pub ReceiversAreReached : Type 0
ReceiversAreReached = ReceiversAreReachedBy receivers_in

-- ---- those of one partition
-- lower MLIDs stand first, and of one MLID lower LIDs
abbrev pub comes_first : GroupReceiver → GroupReceiver → Bool
comes_first a b = nat_lt a.mlid b.mlid || ((a.mlid == b.mlid) && nat_lt a.lid b.lid)

-- the LID is that of a channel adapter's port
abbrev pub is_of_adapter : List SubnetPort → ℕ → Bool
is_of_adapter ports lid = list_any (λ port. (port.lid == lid) && not (is_switch_type port.node_type)) ports

-- they stand in order, each once; each MLID is one of the partition's, and each LID one of a channel adapter's port
pub record AreReceivers (ports : List SubnetPort) (partition : PartitionGroups) : Type 0 where
  pub order : pairwise comes_first (receivers_in ports partition) ≡ true
  pub range : list_all (λ one. is_in_range partition.number one.mlid) (receivers_in ports partition) ≡ true
  pub adapters : list_all (λ one. is_of_adapter ports one.lid) (receivers_in ports partition) ≡ true

abbrev pub ReceiversStandInOrder : Type 0
ReceiversStandInOrder =
    (ports : List SubnetPort) (partition : PartitionGroups) → HaveLidsInOrder ports → is_sound_partition ports partition ≡ true
    → AreReceivers ports partition

-- ---- where they change
-- if nothing changes, no number is reported
abbrev pub NothingChangesAlone : Type 0
NothingChangesAlone = (ports : List SubnetPort) (partitions : List PartitionGroups) → changed_numbers ports partitions partitions ≡ []

-- a partition of whose receivers one comes or goes is reported
abbrev pub has_number : ℕ → List PartitionGroups → Bool
has_number number partitions = list_any (λ partition. partition.number == number) partitions

-- (a rule lists the numbers of the partitions that change from one state to another)
abbrev pub NumberRule : Type 0
NumberRule = List SubnetPort → List PartitionGroups → List PartitionGroups → List ℕ

abbrev pub ChangesAreReportedBy : NumberRule → Type 0
ChangesAreReportedBy rule =
    (ports : List SubnetPort) (before after : List PartitionGroups) (number : ℕ) (one : GroupReceiver) → has_number number before ≡ true
    → same_answer (is_among (receivers_of ports number before) one) (is_among (receivers_of ports number after) one) ≡ false
    → list_any (λ reported. reported == number) (rule ports before after) ≡ true

abbrev pub ChangesAreReported : Type 0
ChangesAreReported = ChangesAreReportedBy changed_numbers

-- and no other: of a number that is reported there is a partition, of whose receivers one comes or goes
pub record HasChanged (ports : List SubnetPort) (before after : List PartitionGroups) (number : ℕ) : Type 0 where
  pub there : has_number number before ≡ true
  pub one : GroupReceiver
  pub differs : same_answer (is_among (receivers_of ports number before) one) (is_among (receivers_of ports number after) one) ≡ false

abbrev pub OnlyChangesAreReportedBy : NumberRule → Type 0
OnlyChangesAreReportedBy rule =
    (ports : List SubnetPort) (before after : List PartitionGroups) (number : ℕ)
    → list_any (λ reported. reported == number) (rule ports before after) ≡ true → HasChanged ports before after number

abbrev pub OnlyChangesAreReported : Type 0
OnlyChangesAreReported = OnlyChangesAreReportedBy changed_numbers

-- a join changes the receivers of the partition of its base alone
abbrev pub is_number_of : ℕ → List PartitionGroups → ℕ → Bool
is_number_of base partitions number = list_any (λ partition. (partition.number == number) && (partition.base == base)) partitions

abbrev pub JoinsChangeOne : Type 0
JoinsChangeOne =
    (ports : List SubnetPort) (join : Join) (partitions : List PartitionGroups)
    → list_all (is_number_of join.base partitions) (changed_numbers ports partitions (joined ports join partitions)) ≡ true
