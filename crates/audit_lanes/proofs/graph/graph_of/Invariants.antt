use Rattle.std.proofs.Common.{◌≡◌, map, take}
use Rattle.audit_lanes.specs.Deadlock.{nexts}
use Rattle.audit_lanes.specs.Keys.{waits_by}
use Rattle.audit_lanes.proofs.graph.graph_of.Given as goal

abbrev pub invariant-loop-first : goal.invariant-loop-first
invariant-loop-first l = l.graph.items ≡ map (nexts (waits_by l.waits) l.all) (take l.first-index l.all)
