use Rattle.smp_wire.proofs.WalkLemmas.{IsUnderWay}
use Rattle.smp_wire.proofs.walking.arrive.Given as goal

abbrev pub invariant-loop-done : goal.invariant-loop-done
invariant-loop-done l = IsUnderWay l.nodes l.cables l.fn.manager l.sent l.done l.at l.smp
