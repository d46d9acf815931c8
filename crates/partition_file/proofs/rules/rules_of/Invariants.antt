use Rattle.std.proofs.Common.{◌≡◌, ◌++◌, drop}
use Rattle.partition_file.specs.Partitions.{rules_after, rules_of}
use Rattle.partition_file.proofs.rules.rules_of.Given as goal

abbrev pub invariant-loop-definition : goal.invariant-loop-definition
invariant-loop-definition l = l.rules.items ++ rules_after l.taken.items (drop l.definition-index l.definitions) ≡ rules_of l.definitions
