use Rattle.std.proofs.Common.{◌≡◌, ◌++◌, flat_map}
use Rattle.std.specs.List.{range_with_len}
use Rattle.audit_multicast.specs.Scanning.{member_behind}
use Rattle.audit_multicast.proofs.cuts.push_members.Given as goal

abbrev pub invariant-loop-number : goal.invariant-loop-number
invariant-loop-number l = l.members.items ≡ l.fn.members.items ++ flat_map (member_behind l.net l.masks l.place) (range_with_len 0 l.number)
