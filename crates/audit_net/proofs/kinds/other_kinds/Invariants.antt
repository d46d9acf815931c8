use Rattle.audit_net.proofs.KindLemmas.{AreOthersBy}
use Rattle.audit_net.proofs.kinds.other_kinds.Given as goal

abbrev pub invariant-loop-place : goal.invariant-loop-place
invariant-loop-place l = AreOthersBy l.net l.of_switch l.place-index l.marks.items
