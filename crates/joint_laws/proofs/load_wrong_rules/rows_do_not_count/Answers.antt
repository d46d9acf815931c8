use Rattle.joint_laws.proofs.LoadWrongLemmas.{rows_do_not_count}
use Rattle.joint_laws.proofs.load_wrong_rules.rows_do_not_count.Goals as goal

pub returns : goal.returns
returns c = rows_do_not_count
