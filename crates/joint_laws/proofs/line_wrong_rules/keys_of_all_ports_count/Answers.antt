use Rattle.joint_laws.proofs.LineWrongLemmas.{keys_of_all_ports_count}
use Rattle.joint_laws.proofs.line_wrong_rules.keys_of_all_ports_count.Goals as goal

pub returns : goal.returns
returns c = keys_of_all_ports_count
