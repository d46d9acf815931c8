use Rattle.joint_laws.proofs.LoadWrongLemmas.{end_ports_do_not_decide}
use Rattle.joint_laws.proofs.load_wrong_rules.end_ports_do_not_decide.Goals as goal

pub returns : goal.returns
returns c = end_ports_do_not_decide
