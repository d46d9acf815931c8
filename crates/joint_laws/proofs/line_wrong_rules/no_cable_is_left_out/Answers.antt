use Rattle.joint_laws.proofs.LineWrongLemmas.{no_cable_is_left_out}
use Rattle.joint_laws.proofs.line_wrong_rules.no_cable_is_left_out.Goals as goal

pub returns : goal.returns
returns c = no_cable_is_left_out
