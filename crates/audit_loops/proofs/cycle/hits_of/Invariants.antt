use Rattle.std.proofs.Common.{◌≡◌, length}
use Rattle.audit_loops.specs.Marks.{IsHitBelow}
use Rattle.audit_loops.proofs.cycle.hits_of.Given as goal

abbrev pub invariant-loop-place : goal.invariant-loop-place
invariant-loop-place l = (length l.hits.items ≡ length l.graph) × IsHitBelow l.graph l.marks l.place l.hits.items
