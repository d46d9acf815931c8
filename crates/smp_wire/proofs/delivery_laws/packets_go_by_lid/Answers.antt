use Rattle.smp_wire.proofs.ByLidLemmas.{others_reach_nobody, packets_go_by_lid}
use Rattle.smp_wire.proofs.delivery_laws.packets_go_by_lid.Goals as goal

pub returns-clause-assigned : goal.returns-clause-assigned
returns-clause-assigned c = packets_go_by_lid

pub returns-clause-others : goal.returns-clause-others
returns-clause-others c = others_reach_nobody
