use Rattle.std.proofs.Common.{◌≡◌, ◌++◌, drop}
use Rattle.partition_reports.specs.FoundChanges.{shares_text}
use Rattle.partition_reports.proofs.changed_shares.push_shares.Given as goal

abbrev pub invariant-loop-place : goal.invariant-loop-place
invariant-loop-place l = l.text.items ++ shares_text (drop l.place l.ports) ≡ l.initial.text.items ++ shares_text l.ports
