use Rattle.audit_net.proofs.HostLemmas.{AreWalked}
use Rattle.audit_net.proofs.net.Net.mark_way.Given as goal

abbrev pub invariant-loop : goal.invariant-loop
invariant-loop l = AreWalked l.self l.lid l.from l.counter l.at l.fn.marks l.marks
