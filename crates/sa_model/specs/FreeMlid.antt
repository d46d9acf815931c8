-- Which MLID a new group gets, over the groups of all partitions.
use Rattle.std.specs.Prelude.{ℕ, ◌≡◌, ◌<◌, ◌==◌, Bool, true, false, not, List, ◌∷◌, ◌++◌, Option, Some, None}
use Rattle.std.specs.List.{list_all, list_any}
use Rattle.subnet_model.specs.declared.subnet_port.SubnetPort.{SubnetPort}
use Rattle.sa_model.specs.Anchor.{free_mlid}
use Rattle.sa_model.specs.Groups.{PartitionGroups}
use Rattle.sa_model.specs.Sound.{is_in_range, is_sound}

-- a group of the partition has it
abbrev pub has_mlid : ℕ → PartitionGroups → Bool
has_mlid mlid partition = list_any (λ group. group.mlid == mlid) partition.groups

-- one of the partition's 32, which no group of any partition has; each lower one of the 32 some group of it has
pub record IsLeastFree (partitions : List PartitionGroups) (partition : PartitionGroups) (mlid : ℕ) : Type 0 where
  pub ours : is_in_range partition.number mlid ≡ true
  pub free : list_any (has_mlid mlid) partitions ≡ false
  pub least : (lower : ℕ) → is_in_range partition.number lower ≡ true → lower < mlid → has_mlid lower partition ≡ true

-- or there is none, if groups of the partition have them all
abbrev pub IsFreeMlid : List PartitionGroups → PartitionGroups → Option ℕ → Type 0
IsFreeMlid partitions partition (Some mlid) = IsLeastFree partitions partition mlid
IsFreeMlid partitions partition None = (mlid : ℕ) → is_in_range partition.number mlid ≡ true → has_mlid mlid partition ≡ true

-- so it is of each partition, if no other has its number
abbrev pub other_number : PartitionGroups → PartitionGroups → Bool
other_number partition other = not (partition.number == other.number)

abbrev pub TheLeastFreeIsGiven : Type 0
TheLeastFreeIsGiven =
    (ports : List SubnetPort) (before after : List PartitionGroups) (partition : PartitionGroups)
    → is_sound ports (before ++ partition ∷ after) ≡ true
    → list_all (other_number partition) (before ++ after) ≡ true → IsFreeMlid (before ++ partition ∷ after) partition (free_mlid partition)
