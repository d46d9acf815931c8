use Rattle.audit_loops.specs.Marks.{KeepsCycles}
use Rattle.audit_loops.proofs.cycle.between.Given as goal

abbrev pub invariant-loop : goal.invariant-loop
invariant-loop l = KeepsCycles l.graph l.marks.items
