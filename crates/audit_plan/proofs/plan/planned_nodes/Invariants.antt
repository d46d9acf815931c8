use Rattle.std.proofs.Common.{◌≡◌, take}
use Rattle.audit_plan.proofs.plan.planned_nodes.Given as goal

abbrev pub invariant-loop-node : goal.invariant-loop-node
invariant-loop-node l = l.planned.items ≡ take l.node-index l.nodes
