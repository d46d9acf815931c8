use Rattle.smp_wire.proofs.WayLemmas.{IsOnWay}
use Rattle.fabric_wire.proofs.carrying.end_of_way.Given as goal

abbrev pub invariant-loop-hops : goal.invariant-loop-hops
invariant-loop-hops l = IsOnWay l.nodes l.cabling.cables l.packet l.fn.first l._hops l.here
