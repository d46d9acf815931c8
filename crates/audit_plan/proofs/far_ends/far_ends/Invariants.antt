use Rattle.std.proofs.Common.{drop}
use Rattle.audit_plan.specs.FarEnds.{KnowsFarEnds}
use Rattle.audit_plan.proofs.far_ends.far_ends.Given as goal

abbrev pub invariant-loop-index : goal.invariant-loop-index
invariant-loop-index l = KnowsFarEnds l.far_ends (drop l.index l.cables)
