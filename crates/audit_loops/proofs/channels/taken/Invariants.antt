use Rattle.audit_loops.proofs.WaitLemmas.{AreTaken}
use Rattle.audit_loops.proofs.channels.taken.Given as goal

abbrev pub invariant-loop-course : goal.invariant-loop-course
invariant-loop-course l = AreTaken l.net l.courses l.place l.course-index l.marks.items
