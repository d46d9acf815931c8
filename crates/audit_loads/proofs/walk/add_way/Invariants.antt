use Rattle.audit_loads.specs.Walk.{AreBelow}
use Rattle.audit_loads.proofs.SumLemmas.{IsWalked}
use Rattle.audit_loads.proofs.walk.add_way.Given as goal

abbrev pub invariant-loop : goal.invariant-loop
invariant-loop l = IsWalked l.net l.flow.lid l.flow.place l.flow.count l.stamp l.fn.marks l.fn.sums l.counter l.at l.marks l.sums × (AreBelow l.stamp l.fn.marks → AreBelow l.stamp l.marks)
