-- What a join does to the multicast groups of a subnet (IBA volume 1, 15.2.5).
use Rattle.std.specs.Prelude.{ℕ, Bool, ◌==◌, ◌&&◌, nat_lt, if◌then◌else◌, List, [], ◌∷◌, ◌++◌, Option, Some, None, map, filter}
use Rattle.std.specs.List.{list_any}
use Rattle.subnet_model.specs.declared.subnet_port.SubnetPort.{SubnetPort}
use Rattle.sa_model.specs.JoinState.{JoinState, is_joined, with_bits}
use Rattle.sa_model.specs.Members.{is_member, is_full_member}
use Rattle.sa_model.specs.Groups.{Creator, GroupParameters, Membership, MulticastGroup, PartitionGroups, lower_port}
use Rattle.sa_model.specs.Anchor.{free_mlid}

-- a port joins the group of an MGID in the partition of a base; if there is none, it is made with these parameters
pub record Join : Type 0 where
  pub port : ℕ
  pub base : ℕ
  pub mgid : ℕ
  pub join_state : JoinState
  pub parameters : GroupParameters

-- members of the partition may join, with some bit
abbrev pub may_join : List SubnetPort → Join → Bool
may_join ports join = is_member ports join.base join.port && is_joined join.join_state

-- only a full member may make a group, and it joins it as FullMember
abbrev pub may_create : List SubnetPort → Join → Bool
may_create ports join = is_full_member ports join.base join.port && join.join_state.full_member

abbrev pub has_mgid : ℕ → MulticastGroup → Bool
has_mgid mgid group = group.mgid == mgid

-- ---- the one membership of a port in a group
abbrev pub is_of : ℕ → Membership → Bool
is_of port membership = membership.port == port

abbrev pub more_joined : Join → Membership → Membership
more_joined join membership =
    if is_of join.port membership
    then record { port = membership.port; join_state = with_bits join.join_state membership.join_state }
    else membership

abbrev pub new_membership : Join → Membership
new_membership join = record { port = join.port; join_state = join.join_state }

-- a membership takes its place by its port
abbrev pub in_place : Membership → List Membership → List Membership
in_place new memberships =
    filter (λ membership. lower_port membership new) memberships ++ new ∷ filter (λ membership. lower_port new membership) memberships

-- it gets the bits besides its own; if there is none, it is added
abbrev pub with_member : Join → List Membership → List Membership
with_member join memberships =
    if list_any (is_of join.port) memberships
    then map (more_joined join) memberships
    else in_place (new_membership join) memberships

abbrev pub joined_group : Join → MulticastGroup → MulticastGroup
joined_group join group =
    if has_mgid join.mgid group then record group { memberships = with_member join group.memberships } else group

-- ---- a group that is not there
abbrev pub new_group : Join → ℕ → MulticastGroup
new_group join mlid = record {
  mgid = join.mgid;
  mlid = mlid;
  parameters = join.parameters;
  creator = Creator.Port join.port;
  memberships = with_member join [];
}

-- a group takes its place by its MLID
abbrev pub with_group : MulticastGroup → List MulticastGroup → List MulticastGroup
with_group new [] = new ∷ []
with_group new (group ∷ groups) =
    if nat_lt new.mlid group.mlid then new ∷ group ∷ groups else group ∷ with_group new groups

-- no group is made if no MLID is free
abbrev pub with_created : Join → Option ℕ → List MulticastGroup → List MulticastGroup
with_created join None groups = groups
with_created join (Some mlid) groups = with_group (new_group join mlid) groups

-- ---- the partition's groups, and those of the subnet
abbrev pub joined_groups : List SubnetPort → Join → PartitionGroups → List MulticastGroup
joined_groups ports join partition =
    if list_any (has_mgid join.mgid) partition.groups
    then map (joined_group join) partition.groups
    else if may_create ports join
    then with_created join (free_mlid partition) partition.groups
    else partition.groups

abbrev pub joined_in : List SubnetPort → Join → PartitionGroups → PartitionGroups
joined_in ports join partition =
    if (partition.base == join.base) && may_join ports join
    then record partition { groups = joined_groups ports join partition }
    else partition

-- the groups after a join
abbrev pub joined : List SubnetPort → Join → List PartitionGroups → List PartitionGroups
joined ports join partitions = map (joined_in ports join) partitions
