use Rattle.std.proofs.Common.{◌==◌}
use Rattle.audit_multicast.proofs.MarkLemmas.{AreMarkedOf}
use Rattle.audit_multicast.proofs.cuts.meet_each.Given as goal

abbrev pub invariant-loop-place : goal.invariant-loop-place
invariant-loop-place l = AreMarkedOf (λ place other. place == other) l.fn.met l.places l.place-index l.met
