use Rattle.audit_net.proofs.HostLemmas.{AreFollowed}
use Rattle.audit_net.proofs.net.Net.hosts_marks.Given as goal

abbrev pub invariant-loop-from : goal.invariant-loop-from
invariant-loop-from l = AreFollowed l.self l.lid l.from-index l.marks.items
