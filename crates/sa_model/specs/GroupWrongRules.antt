-- Wrong rules for groups, most of which do not keep partitions apart, and what each of them breaks.
use Rattle.std.specs.Prelude.{ℕ, ◌≡◌, Bool, true, not, ◌==◌, ◌&&◌, ◌||◌, if◌then◌else◌, List, Option, find, filter, map}
use Rattle.std.specs.List.{flat_map, list_all, list_any, range_with_len}
use Rattle.fabric_parts.specs.NodeType.{is_switch_type}
use Rattle.subnet_model.specs.declared.group_receiver.GroupReceiver.{GroupReceiver}
use Rattle.subnet_model.specs.declared.subnet_port.SubnetPort.{SubnetPort}
use Rattle.subnet_model.specs.Near.{is_near}
use Rattle.sa_model.specs.Groups.{MulticastGroup, PartitionGroups}
use Rattle.sa_model.specs.Anchor.{is_by_file}
use Rattle.sa_model.specs.Joining.{Join, may_create, has_mgid, is_of, with_created, joined_group, joined_in, joined}
use Rattle.sa_model.specs.Leaving.{Leave, left_group}
use Rattle.sa_model.specs.Sight.{Alike, seen}
use Rattle.sa_model.specs.Receivers.{is_among, receivers_of}
use Rattle.sa_model.specs.ReceiverLaws.{ReceiversAreReachedBy, ChangesAreReportedBy, OnlyChangesAreReportedBy}

-- ---- what a rule for joins, or for leaves, has to keep for a port p
abbrev pub JoinRule : Type 0
JoinRule = List SubnetPort → Join → List PartitionGroups → List PartitionGroups

abbrev pub LeaveRule : Type 0
LeaveRule = List SubnetPort → Leave → List PartitionGroups → List PartitionGroups

-- if p sees the same before a join of a port near it, it sees the same after
abbrev pub JoinsAreSeenAlikeBy : JoinRule → Type 0
JoinsAreSeenAlikeBy rule =
    (ports : List SubnetPort) (p : ℕ) (join : Join) (s t : List PartitionGroups) → is_near ports p join.port ≡ true
    → Alike ports p s t → seen ports p (rule ports join s) ≡ seen ports p (rule ports join t)

abbrev pub LeavesAreSeenAlikeBy : LeaveRule → Type 0
LeavesAreSeenAlikeBy rule =
    (ports : List SubnetPort) (p : ℕ) (leave : Leave) (s t : List PartitionGroups) → is_near ports p leave.port ≡ true
    → Alike ports p s t → seen ports p (rule ports leave s) ≡ seen ports p (rule ports leave t)

-- ---- one pool of MLIDs for all partitions
abbrev pub has_mlid : ℕ → PartitionGroups → Bool
has_mlid mlid partition = list_any (λ group. group.mlid == mlid) partition.groups

abbrev pub mlid_of_pool : List PartitionGroups → Option ℕ
mlid_of_pool partitions = find (λ mlid. not (list_any (has_mlid mlid) partitions)) (range_with_len 0xc000 4096)

abbrev pub makes_group : List SubnetPort → Join → PartitionGroups → Bool
makes_group ports join partition =
    (partition.base == join.base) && (may_create ports join && not (list_any (has_mgid join.mgid) partition.groups))

abbrev pub joined_from : Option ℕ → List SubnetPort → Join → PartitionGroups → PartitionGroups
joined_from mlid ports join partition =
    if makes_group ports join partition
    then record partition { groups = with_created join mlid partition.groups }
    else joined_in ports join partition

abbrev pub joined_from_pool : List SubnetPort → Join → List PartitionGroups → List PartitionGroups
joined_from_pool ports join partitions = map (joined_from (mlid_of_pool partitions) ports join) partitions

-- ---- groups that are named by their MGID alone
abbrev pub joined_anywhere : Join → PartitionGroups → PartitionGroups
joined_anywhere join partition = record partition { groups = map (joined_group join) partition.groups }

abbrev pub joined_by_mgid : List SubnetPort → Join → List PartitionGroups → List PartitionGroups
joined_by_mgid ports join partitions =
    if list_any (λ partition. list_any (has_mgid join.mgid) partition.groups) partitions
    then map (joined_anywhere join) partitions
    else joined ports join partitions

-- ---- a limited member that keeps a group
abbrev pub is_kept_by_any : MulticastGroup → Bool
is_kept_by_any group = is_by_file group.creator || list_any (λ m. m.join_state.full_member) group.memberships

abbrev pub left_in_to_any : Leave → PartitionGroups → PartitionGroups
left_in_to_any leave partition =
    record partition { groups = filter is_kept_by_any (map (left_group leave partition.base) partition.groups) }

abbrev pub left_to_any : List SubnetPort → Leave → List PartitionGroups → List PartitionGroups
left_to_any ports leave partitions = map (left_in_to_any leave) partitions

-- ---- a membership that only sends, as one that receives
abbrev pub takes_part : MulticastGroup → SubnetPort → Bool
takes_part group port = not (is_switch_type port.node_type) && list_any (is_of port.guid) group.memberships

abbrev pub group_members : List SubnetPort → MulticastGroup → List GroupReceiver
group_members ports group = map (λ port. record { mlid = group.mlid; lid = port.lid }) (filter (takes_part group) ports)

abbrev pub members_in : List SubnetPort → PartitionGroups → List GroupReceiver
members_in ports partition = flat_map (group_members ports) partition.groups

-- ---- a partition that is reported only if a receiver goes
abbrev pub numbers_of_goers : List SubnetPort → List PartitionGroups → List PartitionGroups → List ℕ
numbers_of_goers ports before after =
    filter (λ number. not (list_all (is_among (receivers_of ports number after)) (receivers_of ports number before)))
    (map (λ partition. partition.number) before)

-- ---- the number of every partition, whether its receivers change or not
abbrev pub numbers_of_all : List SubnetPort → List PartitionGroups → List PartitionGroups → List ℕ
numbers_of_all ports before after = map (λ partition. partition.number) before

-- ---- none of them keeps it
abbrev pub OnePoolIsSeen : Type 0
OnePoolIsSeen = JoinsAreSeenAlikeBy joined_from_pool → ⊥

abbrev pub MgidsAloneAreSeen : Type 0
MgidsAloneAreSeen = JoinsAreSeenAlikeBy joined_by_mgid → ⊥

abbrev pub LimitedKeepersAreSeen : Type 0
LimitedKeepersAreSeen = LeavesAreSeenAlikeBy left_to_any → ⊥

-- nor what is said of receivers
abbrev pub SendersAreReached : Type 0
SendersAreReached = ReceiversAreReachedBy members_in → ⊥

abbrev pub ComersAreReported : Type 0
ComersAreReported = ChangesAreReportedBy numbers_of_goers → ⊥

abbrev pub AllNumbersAreReported : Type 0
AllNumbersAreReported = OnlyChangesAreReportedBy numbers_of_all → ⊥
