use Rattle.std.proofs.Common.{take}
use Rattle.audit_plan.specs.Names.{KnowsNames}
use Rattle.audit_plan.proofs.names.names_of.Given as goal

abbrev pub invariant-loop-node : goal.invariant-loop-node
invariant-loop-node l = KnowsNames l.names (take l.node-index l.nodes)
