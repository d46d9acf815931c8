use Rattle.smp_wire.proofs.PortLemmas.{cabled_ports_are_up, ports_are_good}
use Rattle.smp_wire.proofs.laws.ports_are_good.Goals as goal

pub returns-clause-good : goal.returns-clause-good
returns-clause-good c = ports_are_good

pub returns-clause-up : goal.returns-clause-up
returns-clause-up c = cabled_ports_are_up
