use Rattle.fabric_wire.proofs.SpreadLemmas.{GrowsBelow}
use Rattle.fabric_wire.proofs.spreading.go_on.Given as goal

abbrev pub invariant-loop-number : goal.invariant-loop-number
invariant-loop-number l = GrowsBelow l.nodes l.cabling.cables l.packet l.here l.number l.fn.ports.keys l.ports.keys
