use Rattle.std.proofs.Common.{◌≡◌, flat_map, take}
use Rattle.audit_lanes.specs.Keys.{next_if}
use Rattle.audit_lanes.proofs.graph.nexts_among.Given as goal

abbrev pub invariant-loop-second : goal.invariant-loop-second
invariant-loop-second l = l.nexts.items ≡ flat_map (next_if l.waits l.first) (take l.second-index l.group)
