use Rattle.joint_laws.proofs.LineWrongLemmas.{many_ports_have_sums}
use Rattle.joint_laws.proofs.line_wrong_rules.many_ports_have_sums.Goals as goal

pub returns : goal.returns
returns c = many_ports_have_sums
