use Rattle.std.proofs.Common.{◌≡◌, ◌++◌, filter, length}
use Rattle.partition_reports.specs.Counts.{is_changed}
use Rattle.partition_reports.specs.ChangedPairs.{new_pairs}
use Rattle.partition_reports.proofs.pairs.all_pairs.Given as goal

abbrev pub invariant-loop-member : goal.invariant-loop-member
invariant-loop-member l = record {
  listed : l.pairs.items ++ new_pairs l.rest ≡ new_pairs l.fn.members;
  changed : l.changed_rest ≡ filter is_changed l.rest;
}

abbrev pub decreases-loop-member : goal.decreases-loop-member
decreases-loop-member l = length l.rest
