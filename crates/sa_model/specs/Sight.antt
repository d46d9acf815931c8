-- What of the multicast groups a port can be shown, or be reached by.
use Rattle.std.specs.Prelude.{ℕ, ◌≡◌, true, List, filter, map}
use Rattle.subnet_model.specs.declared.subnet_port.SubnetPort.{SubnetPort}
use Rattle.subnet_model.specs.Near.{is_near}
use Rattle.sa_model.specs.Members.{is_member}
use Rattle.sa_model.specs.Groups.{MulticastGroup, PartitionGroups}
use Rattle.sa_model.specs.Sound.{is_sound}

-- p sees of a group all but the memberships of ports that are far from it
abbrev pub group_seen : List SubnetPort → ℕ → MulticastGroup → MulticastGroup
group_seen ports p group =
    record group { memberships = filter (λ membership. is_near ports p membership.port) group.memberships }

abbrev pub partition_seen : List SubnetPort → ℕ → PartitionGroups → PartitionGroups
partition_seen ports p partition = record partition { groups = map (group_seen ports p) partition.groups }

-- and that in each partition of which it is a member
abbrev pub seen : List SubnetPort → ℕ → List PartitionGroups → List PartitionGroups
seen ports p partitions =
    map (partition_seen ports p) (filter (λ partition. is_member ports partition.base p) partitions)

-- two states are alike to p if it sees the same in both
pub record Alike (ports : List SubnetPort) (p : ℕ) (s t : List PartitionGroups) : Type 0 where
  pub left_sound : is_sound ports s ≡ true
  pub right_sound : is_sound ports t ≡ true
  pub same : seen ports p s ≡ seen ports p t
