use Rattle.smp_wire.proofs.WayLemmas.{goes_one_way, reaches_one_port}
use Rattle.smp_wire.proofs.delivery_laws.unicast_goes_one_way.Goals as goal

pub returns-clause-way : goal.returns-clause-way
returns-clause-way c = goes_one_way

pub returns-clause-port : goal.returns-clause-port
returns-clause-port c = reaches_one_port
