use Rattle.fabric_wire.proofs.SpreadLemmas.{IsSearched}
use Rattle.fabric_wire.proofs.spreading.reached.Given as goal

abbrev pub invariant-loop-place : goal.invariant-loop-place
invariant-loop-place l = IsSearched l.nodes l.cabling.cables l.packet l.fn.first l.place l.ports.keys
