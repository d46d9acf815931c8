use Rattle.std.proofs.Common.{◌≡◌, take}
use Rattle.partition_reports.specs.Sums.{sums_text}
use Rattle.partition_reports.proofs.sums.sums_text.Given as goal

abbrev pub invariant-loop-heading : goal.invariant-loop-heading
invariant-loop-heading l = l.text.items ≡ sums_text (take l.heading-index l.headings) l.ports
