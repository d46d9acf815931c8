use Rattle.joint_laws.proofs.LineWrongLemmas.{lost_entries_are_printed}
use Rattle.joint_laws.proofs.line_wrong_rules.lost_entries_are_printed.Goals as goal

pub returns : goal.returns
returns c = lost_entries_are_printed
