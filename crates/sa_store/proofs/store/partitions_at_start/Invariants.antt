use Rattle.std.proofs.Common.{◌≡◌, ◌++◌, drop}
use Rattle.sa_model.specs.Groups.{start_from}
use Rattle.sa_store.proofs.store.partitions_at_start.Given as goal

abbrev pub invariant-loop-number : goal.invariant-loop-number
invariant-loop-number l = l.partitions.items ++ start_from l.number (drop l.number l.headings) ≡ start_from 0 l.headings
