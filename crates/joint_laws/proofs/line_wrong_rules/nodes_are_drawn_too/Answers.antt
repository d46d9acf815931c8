use Rattle.joint_laws.proofs.LineWrongLemmas.{nodes_are_drawn_too}
use Rattle.joint_laws.proofs.line_wrong_rules.nodes_are_drawn_too.Goals as goal

pub returns : goal.returns
returns c = nodes_are_drawn_too
