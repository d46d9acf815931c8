use Rattle.smp_wire.proofs.IdleLemmas.{idle_towards_nobody}
use Rattle.smp_wire.proofs.delivery_laws.bits_towards_nobody_are_idle.Goals as goal

pub returns : goal.returns
returns c = idle_towards_nobody
