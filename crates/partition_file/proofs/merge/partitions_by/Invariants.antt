use Rattle.std.proofs.Common.{◌≡◌, map, take}
use Rattle.partition_file.specs.Partitions.{bases_of, partition_of}
use Rattle.partition_file.proofs.merge.partitions_by.Given as goal

abbrev pub invariant-loop-base : goal.invariant-loop-base
invariant-loop-base l = l.partitions.items ≡ map (partition_of l.rules) (take l.base-index (bases_of l.rules))
