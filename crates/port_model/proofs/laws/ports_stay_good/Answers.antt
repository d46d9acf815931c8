use Rattle.port_model.proofs.AgentLemmas.{new_ports_good, smps_keep_good}
use Rattle.port_model.proofs.laws.ports_stay_good.Goals as goal

pub returns-clause-new : goal.returns-clause-new
returns-clause-new c = new_ports_good

pub returns-clause-kept : goal.returns-clause-kept
returns-clause-kept c = smps_keep_good
