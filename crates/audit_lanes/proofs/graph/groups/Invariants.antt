use Rattle.std.proofs.Common.{◌≡◌, map}
use Rattle.std.specs.List.{range_with_len}
use Rattle.audit_lanes.specs.Keys.{numbered_at}
use Rattle.audit_lanes.proofs.graph.groups.Given as goal

abbrev pub invariant-loop-place : goal.invariant-loop-place
invariant-loop-place l = l.groups.items ≡ map (numbered_at l.all) (range_with_len 0 l.place)
