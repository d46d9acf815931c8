use Rattle.subnet_model.proofs.IsolationLemmas.{the_port_of_a_lid_is_near}
use Rattle.subnet_model.proofs.laws.the_port_of_a_lid_is_near.Goals as goal

pub returns : goal.returns
returns c = the_port_of_a_lid_is_near
