use Rattle.std.proofs.Common.{◌≡◌, ◌++◌, take}
use Rattle.std.specs.List.{flat_map}
use Rattle.partition_reports.specs.FoundChanges.{group_text}
use Rattle.partition_reports.proofs.headings.push_groups.Given as goal

abbrev pub invariant-loop-base : goal.invariant-loop-base
invariant-loop-base l = l.text.items ≡ l.fn.text.items ++ flat_map (group_text l.fn.before l.fn.after) (take l.base-index l.fn.bases)
