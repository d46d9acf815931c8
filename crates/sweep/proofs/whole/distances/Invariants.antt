use Rattle.sweep.specs.Rounds.{AreFound}
use Rattle.sweep.proofs.whole.distances.Given as goal

abbrev pub invariant-loop-round : goal.invariant-loop-round
invariant-loop-round l = AreFound l.rows l.from l.round l.found.items
