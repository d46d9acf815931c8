-- Joins and leaves, one after another.
use Rattle.std.specs.Prelude.{ℕ, List, filter, fold}
use Rattle.subnet_model.specs.declared.subnet_port.SubnetPort.{SubnetPort}
use Rattle.subnet_model.specs.Near.{is_near}
use Rattle.sa_model.specs.Groups.{PartitionGroups}
use Rattle.sa_model.specs.Joining.{Join, joined}
use Rattle.sa_model.specs.Leaving.{Leave, left}

pub data Change : Type 0 where
  joins : Join → Change
  leaves : Leave → Change

-- the port that joins or leaves
abbrev pub actor : Change → ℕ
actor (Change.joins join) = join.port
actor (Change.leaves leave) = leave.port

abbrev pub changed : List SubnetPort → List PartitionGroups → Change → List PartitionGroups
changed ports partitions (Change.joins join) = joined ports join partitions
changed ports partitions (Change.leaves leave) = left ports leave partitions

-- the groups after all of them
abbrev pub after_changes : List SubnetPort → List PartitionGroups → List Change → List PartitionGroups
after_changes ports partitions changes = fold (changed ports) partitions changes

-- those of the ports near p
abbrev pub changes_near : List SubnetPort → ℕ → List Change → List Change
changes_near ports p changes = filter (λ change. is_near ports p (actor change)) changes

-- a partition's number and its base
abbrev pub partition_of : PartitionGroups → ℕ × ℕ
partition_of partition = (partition.number, partition.base)
