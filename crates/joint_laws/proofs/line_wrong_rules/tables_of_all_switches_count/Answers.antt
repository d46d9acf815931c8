use Rattle.joint_laws.proofs.LineWrongLemmas.{tables_of_all_switches_count}
use Rattle.joint_laws.proofs.line_wrong_rules.tables_of_all_switches_count.Goals as goal

pub returns : goal.returns
returns c = tables_of_all_switches_count
