use Rattle.std.proofs.Common.{List, Bool}
use Rattle.audit_multicast.specs.Masks.{has_row}
use Rattle.audit_multicast.proofs.MarkLemmas.{AreMarkedFrom}
use Rattle.audit_multicast.proofs.masks.marks_of.Given as goal

abbrev pub invariant-loop-table : goal.invariant-loop-table
invariant-loop-table l = AreMarkedFrom (λ table mlid. has_row mlid table) 65536 l.tables l.table-index l.marks.items
