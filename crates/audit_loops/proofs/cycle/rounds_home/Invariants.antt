use Rattle.audit_loops.proofs.CycleLemmas.{AreRounds}
use Rattle.audit_loops.proofs.cycle.rounds_home.Given as goal

abbrev pub invariant-loop : goal.invariant-loop
invariant-loop l = AreRounds l.graph l.home l.counter l.before.items l.marks.items
