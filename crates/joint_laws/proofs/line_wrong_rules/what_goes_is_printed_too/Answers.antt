use Rattle.joint_laws.proofs.LineWrongLemmas.{what_goes_is_printed_too}
use Rattle.joint_laws.proofs.line_wrong_rules.what_goes_is_printed_too.Goals as goal

pub returns : goal.returns
returns c = what_goes_is_printed_too
