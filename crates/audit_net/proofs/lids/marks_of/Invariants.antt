use Rattle.audit_net.proofs.LidLemmas.{AreMarkedBy}
use Rattle.audit_net.proofs.lids.marks_of.Given as goal

abbrev pub invariant-loop-table : goal.invariant-loop-table
invariant-loop-table l = AreMarkedBy l.fn.count l.tables l.table-index l.marks.items
