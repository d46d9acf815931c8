use Rattle.audit_net.proofs.KindLemmas.{AreOthers}
use Rattle.audit_net.proofs.kinds.mark_others.Given as goal

abbrev pub invariant-loop-row : goal.invariant-loop-row
invariant-loop-row l = AreOthers l.fn.marks l.of_switch l.rows l.row-index l.marks
