use Rattle.std.proofs.Common.{◌≡◌, ◌++◌, take}
use Rattle.partition_reports.specs.Sums.{sum_line}
use Rattle.partition_reports.specs.Changes.{changes_text}
use Rattle.partition_reports.specs.ChangedSums.{sum_changes}
use Rattle.partition_reports.proofs.changed_sums.push_sums.Given as goal

abbrev pub invariant-loop-base : goal.invariant-loop-base
invariant-loop-base l = l.text.items ≡ l.fn.text.items ++ changes_text sum_line (sum_changes (take l.base-index l.bases) l.before l.after)
