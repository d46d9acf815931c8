use Rattle.std.proofs.Common.{◌≡◌, ◌++◌, flat_map, take}
use Rattle.audit_plan.specs.Plan.{switch_lid}
use Rattle.audit_plan.proofs.discovered.push_switch_lids.Given as goal

abbrev pub invariant-loop-node : goal.invariant-loop-node
invariant-loop-node l = l.lids.items ≡ l.fn.lids.items ++ flat_map switch_lid (take l.node-index l.fn.nodes)
