use Rattle.std.proofs.Common.{◌≡◌, ◌++◌, map}
use Rattle.std.specs.List.{range_with_len}
use Rattle.audit_lanes.specs.Lanes.{lane}
use Rattle.audit_lanes.proofs.lane.push_lanes.Given as goal

abbrev pub invariant-loop-vl : goal.invariant-loop-vl
invariant-loop-vl l = l.lanes.items ≡ l.fn.lanes.items ++ map (lane l.at) (range_with_len 0 l.vl)
