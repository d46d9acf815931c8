use Rattle.std.proofs.Common.{◌≡◌, take}
use Rattle.partition_file.specs.Partitions.{listed}
use Rattle.partition_file.proofs.merge.listed.Given as goal

abbrev pub invariant-loop-rule : goal.invariant-loop-rule
invariant-loop-rule l = l.items ≡ listed (take l.rule-index l.rules) l.base
