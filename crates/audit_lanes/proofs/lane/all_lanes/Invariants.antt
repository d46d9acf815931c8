use Rattle.std.proofs.Common.{◌≡◌, flat_map, take}
use Rattle.audit_lanes.specs.Lanes.{lanes_of}
use Rattle.audit_lanes.proofs.lane.all_lanes.Given as goal

abbrev pub invariant-loop-at : goal.invariant-loop-at
invariant-loop-at l = l.lanes.items ≡ flat_map lanes_of (take l.at-index l.at-items)
