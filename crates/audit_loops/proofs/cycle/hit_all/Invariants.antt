use Rattle.std.proofs.Common.{take}
use Rattle.audit_loops.proofs.CycleLemmas.{AreHit}
use Rattle.audit_loops.proofs.cycle.hit_all.Given as goal

abbrev pub invariant-loop-next : goal.invariant-loop-next
invariant-loop-next l = AreHit l.fn.hits (take l.next-index l.nexts) l.hits
