use Rattle.std.proofs.Common.{◌≡◌, take}
use Rattle.partition_file.specs.Partitions.{bases_of}
use Rattle.partition_file.proofs.merge.bases_of.Given as goal

abbrev pub invariant-loop-rule : goal.invariant-loop-rule
invariant-loop-rule l = l.bases.items ≡ bases_of (take l.rule-index l.rules)
