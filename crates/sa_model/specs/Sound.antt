-- What is so of the multicast groups after every run.
use Rattle.std.specs.Prelude.{ℕ, Bool, true, not, ◌==◌, ◌&&◌, ◌+◌, nat_lt, nat_le, List, [], ◌∷◌}
use Rattle.std.specs.List.{list_all}
use Rattle.subnet_model.specs.declared.subnet_port.SubnetPort.{SubnetPort}
use Rattle.sa_model.specs.JoinState.{is_joined}
use Rattle.sa_model.specs.Members.{is_member, is_full_member}
use Rattle.sa_model.specs.Groups.{Creator, Membership, MulticastGroup, PartitionGroups, first_mlid, lower_port}
use Rattle.sa_model.specs.Anchor.{is_kept}

-- each element stands so to each that comes behind it
abbrev pub pairwise : {X : Type 0} → (X → X → Bool) → List X → Bool
pairwise stands [] = true
pairwise stands (x ∷ xs) = list_all (stands x) xs && pairwise stands xs

abbrev pub other_mgid : MulticastGroup → MulticastGroup → Bool
other_mgid a b = not (a.mgid == b.mgid)

abbrev pub lower_mlid : MulticastGroup → MulticastGroup → Bool
lower_mlid a b = nat_lt a.mlid b.mlid

-- a port that made a group is a full member of its partition
abbrev pub may_have_made : List SubnetPort → ℕ → Creator → Bool
may_have_made ports base (Creator.Port guid) = is_full_member ports base guid
may_have_made ports base Creator.PartitionFile = true

-- who takes part is a member of the partition, and takes part somehow
abbrev pub is_sound_membership : List SubnetPort → ℕ → Membership → Bool
is_sound_membership ports base membership = is_member ports base membership.port && is_joined membership.join_state

-- the MLID is one of the partition's 32
abbrev pub is_in_range : ℕ → ℕ → Bool
is_in_range number mlid = nat_le (first_mlid number) mlid && nat_lt mlid (first_mlid number + 32)

-- a group is kept, was made by one who may, has an MLID of its partition, and its memberships stand by port, each port once
abbrev pub is_sound_group : List SubnetPort → PartitionGroups → MulticastGroup → Bool
is_sound_group ports partition group =
    is_kept ports partition.base group
    && (may_have_made ports partition.base group.creator
    && (is_in_range partition.number group.mlid
    && (list_all (is_sound_membership ports partition.base) group.memberships
    && pairwise lower_port group.memberships)))

-- each group is so; they stand by MLID, and no two have one MGID
abbrev pub is_sound_partition : List SubnetPort → PartitionGroups → Bool
is_sound_partition ports partition =
    list_all (is_sound_group ports partition) partition.groups
    && (pairwise lower_mlid partition.groups && pairwise other_mgid partition.groups)

-- so are the groups of all partitions
abbrev pub is_sound : List SubnetPort → List PartitionGroups → Bool
is_sound ports partitions = list_all (is_sound_partition ports) partitions
