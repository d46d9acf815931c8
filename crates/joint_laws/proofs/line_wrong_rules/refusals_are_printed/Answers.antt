use Rattle.joint_laws.proofs.LineWrongLemmas.{refusals_are_printed}
use Rattle.joint_laws.proofs.line_wrong_rules.refusals_are_printed.Goals as goal

pub returns : goal.returns
returns c = refusals_are_printed
