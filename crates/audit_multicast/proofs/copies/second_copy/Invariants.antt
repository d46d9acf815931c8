use Rattle.audit_multicast.proofs.MeetLemmas.{IsFollowed}
use Rattle.audit_multicast.proofs.copies.second_copy.Given as goal

abbrev pub invariant-loop : goal.invariant-loop
invariant-loop l = IsFollowed l.net l.masks l.place l.counter l.met.items l.front.items
