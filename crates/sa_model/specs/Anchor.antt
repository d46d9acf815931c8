-- What keeps a multicast group, and which MLID a new one gets.
use Rattle.std.specs.Prelude.{ℕ, Bool, true, false, not, ◌==◌, ◌&&◌, ◌||◌, List, Option, find}
use Rattle.std.specs.List.{list_any, range_with_len}
use Rattle.subnet_model.specs.declared.subnet_port.SubnetPort.{SubnetPort}
use Rattle.sa_model.specs.Members.{is_full_member}
use Rattle.sa_model.specs.Groups.{Creator, Membership, MulticastGroup, PartitionGroups, first_mlid}

abbrev pub is_by_file : Creator → Bool
is_by_file (Creator.Port guid) = false
is_by_file Creator.PartitionFile = true

-- a full member of the partition that joined as FullMember keeps a group
abbrev pub anchors : List SubnetPort → ℕ → Membership → Bool
anchors ports base membership = membership.join_state.full_member && is_full_member ports base membership.port

-- a group stays while the partition file or some membership keeps it
abbrev pub is_kept : List SubnetPort → ℕ → MulticastGroup → Bool
is_kept ports base group = is_by_file group.creator || list_any (anchors ports base) group.memberships

-- the MLIDs of a partition
abbrev pub mlid_range : ℕ → List ℕ
mlid_range number = range_with_len (first_mlid number) 32

-- the least MLID of the partition that no group has
abbrev pub free_mlid : PartitionGroups → Option ℕ
free_mlid partition = find (λ mlid. not (list_any (λ group. group.mlid == mlid) partition.groups)) (mlid_range partition.number)
