use Rattle.updn_routes.specs.Rounds.{AreFound, is_marked}
use Rattle.updn_routes.proofs.distance.distances.Given as goal

abbrev pub invariant-loop-round : goal.invariant-loop-round
invariant-loop-round l = AreFound l.rows (is_marked l.marks) l.round l.found.items
