use Rattle.subnet_model.proofs.IsolationLemmas.{slids_name_their_ports}
use Rattle.subnet_model.proofs.laws.slids_name_their_ports.Goals as goal

pub returns : goal.returns
returns c = slids_name_their_ports
