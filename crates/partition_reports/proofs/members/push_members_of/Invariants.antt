use Rattle.std.proofs.Common.{◌≡◌, ◌++◌, take}
use Rattle.std.specs.List.{flat_map}
use Rattle.partition_reports.specs.FoundChanges.{member_text}
use Rattle.partition_reports.proofs.members.push_members_of.Given as goal

abbrev pub invariant-loop-port : goal.invariant-loop-port
invariant-loop-port l = l.text.items ≡ l.fn.text.items ++ flat_map (member_text l.fn.base) (take l.port-index l.fn.ports)
