use Rattle.std.proofs.Common.{◌≡◌, ◌++◌, take}
use Rattle.std.specs.List.{flat_map}
use Rattle.partition_reports.specs.FoundChanges.{members_text}
use Rattle.partition_reports.proofs.members.push_members.Given as goal

abbrev pub invariant-loop-base : goal.invariant-loop-base
invariant-loop-base l = l.text.items ≡ l.fn.text.items ++ flat_map (members_text l.fn.ports) (take l.base-index l.fn.bases)
