use Rattle.std.proofs.Common.{◌==◌}
use Rattle.audit_multicast.proofs.MarkLemmas.{AreMarkedOf}
use Rattle.audit_multicast.proofs.masks.mark_rows.Given as goal

abbrev pub invariant-loop-row : goal.invariant-loop-row
invariant-loop-row l = AreMarkedOf (λ row mlid. row.mlid == mlid) l.fn.marks l.table.rows l.row-index l.marks
