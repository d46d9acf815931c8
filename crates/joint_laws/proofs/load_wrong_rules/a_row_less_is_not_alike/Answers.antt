use Rattle.joint_laws.proofs.LoadWrongLemmas.{a_row_less_is_not_alike}
use Rattle.joint_laws.proofs.load_wrong_rules.a_row_less_is_not_alike.Goals as goal

pub returns : goal.returns
returns c = a_row_less_is_not_alike
