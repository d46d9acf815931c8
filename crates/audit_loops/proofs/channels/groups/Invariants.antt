use Rattle.std.proofs.Common.{◌≡◌, map}
use Rattle.std.specs.List.{range_with_len}
use Rattle.audit_loops.specs.Waits.{group_at}
use Rattle.audit_loops.proofs.channels.groups.Given as goal

abbrev pub invariant-loop-place : goal.invariant-loop-place
invariant-loop-place l = l.groups.items ≡ map (group_at l.net l.all) (range_with_len 0 l.place)
