use Rattle.joint_laws.proofs.ChangeLemmas.{all_changes_are_printed}
use Rattle.joint_laws.proofs.line_laws.all_changes_are_printed.Goals as goal

pub returns : goal.returns
returns c = all_changes_are_printed
