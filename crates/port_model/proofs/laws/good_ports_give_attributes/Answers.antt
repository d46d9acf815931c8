use Rattle.port_model.proofs.AgentLemmas.{give_attributes}
use Rattle.port_model.proofs.laws.good_ports_give_attributes.Goals as goal

pub returns : goal.returns
returns c = give_attributes
