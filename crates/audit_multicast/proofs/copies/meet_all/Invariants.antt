use Rattle.std.proofs.Common.{List}
use Rattle.audit_multicast.proofs.MeetLemmas.{AreMet}
use Rattle.audit_multicast.proofs.copies.meet_all.Given as goal

abbrev pub invariant-loop-at : goal.invariant-loop-at
invariant-loop-at l = AreMet l.net l.fn.met l.front l.at-index l.met
