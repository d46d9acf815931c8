use Rattle.std.proofs.Common.{◌≡◌, ◌++◌, take}
use Rattle.std.specs.List.{flat_map}
use Rattle.partition_reports.specs.ChangedPairs.{pair_if}
use Rattle.partition_reports.proofs.pairs.push_others.Given as goal

abbrev pub invariant-loop-other : goal.invariant-loop-other
invariant-loop-other l = l.pairs.items ≡ l.fn.pairs.items ++ flat_map (pair_if l.fn.member) (take l.other-index l.fn.others)
