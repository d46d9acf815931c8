use Rattle.fabric_wire.proofs.CablingLemmas.{LooksUp}
use Rattle.fabric_wire.proofs.cabling.far_ends.Given as goal

abbrev pub invariant-loop-index : goal.invariant-loop-index
invariant-loop-index l = LooksUp l.cables l.index l.far_ends
