use Rattle.switch_model.specs.Multicast.{copies_out}
use Rattle.switch_model.proofs.MulticastLemmas.{AreBits}
use Rattle.switch_model.proofs.switch.Switch.multicast_out.Given as goal

abbrev pub invariant-loop-number : goal.invariant-loop-number
invariant-loop-number g l = AreBits l.out l.number (copies_out l.self l.in_port l.packet)
