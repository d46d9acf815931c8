use Rattle.std.proofs.Common.{◌≡◌, map, take}
use Rattle.partition_file.specs.Members.{heading_of}
use Rattle.partition_file.proofs.membership.all_headings.Given as goal

abbrev pub invariant-loop-partition : goal.invariant-loop-partition
invariant-loop-partition l = l.headings.items ≡ map heading_of (take l.partition-index l.partitions)
