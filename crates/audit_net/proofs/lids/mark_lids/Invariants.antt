use Rattle.audit_net.proofs.LidLemmas.{AreMarked}
use Rattle.audit_net.proofs.lids.mark_lids.Given as goal

abbrev pub invariant-loop-row : goal.invariant-loop-row
invariant-loop-row l = AreMarked l.fn.marks l.rows l.row-index l.marks
