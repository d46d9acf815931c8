use Rattle.std.proofs.Common.{◌≡◌, map, take}
use Rattle.audit_multicast.specs.Loops.{nexts}
use Rattle.audit_multicast.proofs.loops.graph_of.Given as goal

abbrev pub invariant-loop-first : goal.invariant-loop-first
invariant-loop-first l = l.graph.items ≡ map (nexts l.net l.all) (take l.first-index l.all)
