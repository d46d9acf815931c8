-- What a leave does to the multicast groups of a subnet (IBA volume 1, 15.2.5).
use Rattle.std.specs.Prelude.{ℕ, Bool, true, ◌==◌, ◌&&◌, if◌then◌else◌, List, Option, Some, None, filter, map}
use Rattle.subnet_model.specs.declared.subnet_port.SubnetPort.{SubnetPort}
use Rattle.sa_model.specs.JoinState.{JoinState, is_joined, without_bits}
use Rattle.sa_model.specs.Groups.{Membership, MulticastGroup, PartitionGroups}
use Rattle.sa_model.specs.Anchor.{is_kept}
use Rattle.sa_model.specs.Joining.{has_mgid, is_of}

-- a port leaves the group of an MGID in the partition of a base, or in each partition if no base is asked
pub record Leave : Type 0 where
  pub port : ℕ
  pub base : Option ℕ
  pub mgid : ℕ
  pub join_state : JoinState

abbrev pub names_base : Option ℕ → ℕ → Bool
names_base None base = true
names_base (Some asked) base = base == asked

-- this membership of a group of this base is one that is left
abbrev pub is_left : Leave → ℕ → MulticastGroup → Membership → Bool
is_left leave base group membership =
    is_of leave.port membership && (has_mgid leave.mgid group && names_base leave.base base)

-- it loses the bits
abbrev pub less_joined : Leave → ℕ → MulticastGroup → Membership → Membership
less_joined leave base group membership =
    if is_left leave base group membership
    then record { port = membership.port; join_state = without_bits leave.join_state membership.join_state }
    else membership

-- memberships without bits are dropped
abbrev pub without_member : Leave → ℕ → MulticastGroup → List Membership
without_member leave base group =
    filter (λ membership. is_joined membership.join_state) (map (less_joined leave base group) group.memberships)

abbrev pub left_group : Leave → ℕ → MulticastGroup → MulticastGroup
left_group leave base group = record group { memberships = without_member leave base group }

-- then the groups that nothing keeps are dropped, with all who are still in them
abbrev pub left_in : List SubnetPort → Leave → PartitionGroups → PartitionGroups
left_in ports leave partition = record partition {
  groups = filter (is_kept ports partition.base) (map (left_group leave partition.base) partition.groups);
}

-- the groups after a leave
abbrev pub left : List SubnetPort → Leave → List PartitionGroups → List PartitionGroups
left ports leave partitions = map (left_in ports leave) partitions
