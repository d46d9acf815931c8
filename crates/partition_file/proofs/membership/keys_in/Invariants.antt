use Rattle.std.proofs.Common.{drop}
use Rattle.partition_file.proofs.MemberLemmas.{IsFilled}
use Rattle.partition_file.proofs.membership.keys_in.Given as goal

abbrev pub invariant-loop-partition : goal.invariant-loop-partition
invariant-loop-partition l = IsFilled l.port (drop l.partition-index l.partitions) l.keys l.partitions
