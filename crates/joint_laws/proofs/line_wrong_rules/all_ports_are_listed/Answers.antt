use Rattle.joint_laws.proofs.LineWrongLemmas.{all_ports_are_listed}
use Rattle.joint_laws.proofs.line_wrong_rules.all_ports_are_listed.Goals as goal

pub returns : goal.returns
returns c = all_ports_are_listed
