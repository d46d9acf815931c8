use Rattle.std.proofs.Common.{◌≡◌, ◌++◌, ◌∷◌, length}
use Rattle.audit_loops.specs.Cycle.{way}
use Rattle.audit_loops.proofs.cycle.ring.Given as goal

abbrev pub invariant-loop-count : goal.invariant-loop-count
invariant-loop-count l = l.ring.items ++ way l.graph l.count l.place l.home ≡ l.home ∷ way l.graph (length l.before) l.home l.home
