-- What a sound group and a sound partition are made of; and starts are sound.
use Rattle.std.proofs.Common.{ℕ, ◌+◌, ◌*◌, true, nat_lt, nat_le, List, [], ◌∷◌, Option, Some, None}
use Rattle.std.proofs.Common.{◌≡◌, refl, arith}
use Rattle.std.specs.List.{list_all}
use Rattle.std.proofs.lemmas.Bool.{and_from, and_parts}
use Rattle.std.proofs.lemmas.Bool.Decides.{nat_tests}
use Rattle.partition_file.specs.declared.broadcast_group.BroadcastGroup.{BroadcastGroup}
use Rattle.partition_file.specs.declared.heading.Heading.{Heading}
use Rattle.subnet_model.specs.declared.subnet_port.SubnetPort.{SubnetPort}
use Rattle.subnet_model.specs.Configuration.{ConfigurationState}
use Rattle.sa_model.specs.Groups.{MulticastGroup, PartitionGroups, file_groups, start_from, start_of, lower_port}
use Rattle.sa_model.specs.Anchor.{is_kept}
use Rattle.sa_model.specs.Sound.{pairwise, other_mgid, lower_mlid, may_have_made, is_sound_membership, is_in_range, is_sound_group, is_sound_partition, is_sound}

-- ---- a group
pub record SoundParts (ports : List SubnetPort) (partition : PartitionGroups) (group : MulticastGroup) : Type 0 where
  pub kept : is_kept ports partition.base group ≡ true
  pub made : may_have_made ports partition.base group.creator ≡ true
  pub ranged : is_in_range partition.number group.mlid ≡ true
  pub members : list_all (is_sound_membership ports partition.base) group.memberships ≡ true
  pub by_port : pairwise lower_port group.memberships ≡ true

pub sound_parts : (ports : List SubnetPort) (partition : PartitionGroups) (group : MulticastGroup) → is_sound_group ports partition group ≡ true
    → SoundParts ports partition group
sound_parts ports partition group sound =
    let one = and_parts (is_kept ports partition.base group) _ sound in
    let two = and_parts (may_have_made ports partition.base group.creator) _ one.1 in
    let three = and_parts (is_in_range partition.number group.mlid) _ two.1 in
    let four = and_parts (list_all (is_sound_membership ports partition.base) group.memberships) (pairwise lower_port group.memberships) three.1 in
    record { kept = one.0; made = two.0; ranged = three.0; members = four.0; by_port = four.1 }

pub sound_group : (ports : List SubnetPort) (partition : PartitionGroups) (group : MulticastGroup) → SoundParts ports partition group
    → is_sound_group ports partition group ≡ true
sound_group ports partition group parts =
    and_from (is_kept ports partition.base group) _ parts.kept
    (and_from (may_have_made ports partition.base group.creator) _ parts.made
    (and_from (is_in_range partition.number group.mlid) _ parts.ranged
    (and_from (list_all (is_sound_membership ports partition.base) group.memberships) (pairwise lower_port group.memberships) parts.members parts.by_port)))

-- ---- a partition
pub record PartitionParts (ports : List SubnetPort) (partition : PartitionGroups) (groups : List MulticastGroup) : Type 0 where
  pub each : list_all (is_sound_group ports partition) groups ≡ true
  pub order : pairwise lower_mlid groups ≡ true
  pub apart : pairwise other_mgid groups ≡ true

pub partition_parts : (ports : List SubnetPort) (partition : PartitionGroups) → is_sound_partition ports partition ≡ true
    → PartitionParts ports partition partition.groups
partition_parts ports partition sound =
    let one = and_parts (list_all (is_sound_group ports partition) partition.groups) _ sound in
    let two = and_parts (pairwise lower_mlid partition.groups) (pairwise other_mgid partition.groups) one.1 in
    record { each = one.0; order = two.0; apart = two.1 }

pub sound_partition : (ports : List SubnetPort) (partition : PartitionGroups) (groups : List MulticastGroup) → PartitionParts ports partition groups
    → is_sound_partition ports (record partition { groups = groups }) ≡ true
sound_partition ports partition groups parts =
    and_from (list_all (is_sound_group ports partition) groups) _ parts.each
    (and_from (pairwise lower_mlid groups) (pairwise other_mgid groups) parts.order parts.apart)

-- ---- the start
file_groups_sound : (ports : List SubnetPort) (number base : ℕ) (group : Option BroadcastGroup)
    → is_sound_partition ports (record { number = number; base = base; groups = file_groups number base group }) ≡ true
file_groups_sound ports number base None = refl
file_groups_sound ports number base (Some group) =
    let low : nat_le (49152 + 32 * number) (49152 + 32 * number) ≡ true = grind (arith, nat_tests) in
    let high : nat_lt (49152 + 32 * number) (49152 + 32 * number + 32) ≡ true = grind (arith, nat_tests) in
    rw (low, high) refl

start_from_sound : (ports : List SubnetPort) (number : ℕ) (headings : List Heading) → is_sound ports (start_from number headings) ≡ true
start_from_sound ports number [] = refl
start_from_sound ports number (heading ∷ headings) =
    and_from (is_sound_partition ports (record { number = number; base = heading.base; groups = file_groups number heading.base heading.group }))
    (is_sound ports (start_from (number + 1) headings))
    (file_groups_sound ports number heading.base heading.group) (start_from_sound ports (number + 1) headings)

pub start_sound : (ports : List SubnetPort) (configuration : ConfigurationState) → is_sound ports (start_of configuration) ≡ true
start_sound ports configuration = start_from_sound ports 0 configuration.partitions
