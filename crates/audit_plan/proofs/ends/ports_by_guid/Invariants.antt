use Rattle.std.proofs.Common.{drop}
use Rattle.audit_plan.specs.Ends.{KnowsEnds}
use Rattle.audit_plan.proofs.ends.ports_by_guid.Given as goal

abbrev pub invariant-loop-index : goal.invariant-loop-index
invariant-loop-index l = KnowsEnds l.ports (drop l.index l.ends)
