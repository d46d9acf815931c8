use Rattle.std.proofs.Common.{◌≡◌, ◌++◌, flat_map, take}
use Rattle.audit_lanes.specs.Lines.{lane_word}
use Rattle.audit_lanes.proofs.lines.push_lanes.Given as goal

abbrev pub invariant-loop-lane : goal.invariant-loop-lane
invariant-loop-lane l = l.text.items ≡ l.fn.text.items ++ flat_map (lane_word l.net) (take l.lane-index l.ring)
