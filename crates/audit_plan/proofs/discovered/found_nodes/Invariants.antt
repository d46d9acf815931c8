use Rattle.std.proofs.Common.{◌≡◌, map, take}
use Rattle.audit_plan.specs.Plan.{found_node}
use Rattle.audit_plan.proofs.discovered.found_nodes.Given as goal

abbrev pub invariant-loop-node : goal.invariant-loop-node
invariant-loop-node l = l.found.items ≡ map (found_node l.nodes) (take l.node-index l.nodes)
