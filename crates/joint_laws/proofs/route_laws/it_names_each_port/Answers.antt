use Rattle.joint_laws.proofs.NameLemmas.{it_names_each_port}
use Rattle.joint_laws.proofs.route_laws.it_names_each_port.Goals as goal

pub returns : goal.returns
returns c = it_names_each_port
