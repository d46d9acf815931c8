use Rattle.fabric_wire.proofs.HopLemmas.{IsOnWay}
use Rattle.fabric_wire.proofs.hopping.go_out.Given as goal

abbrev pub invariant-loop-hops : goal.invariant-loop-hops
invariant-loop-hops l = IsOnWay l.nodes l.cabling.cables l.fn.manager l.sent l._hops l.at l.entered l.smp
