use Rattle.joint_laws.proofs.TraceLemmas.{all_steps_are_printed}
use Rattle.joint_laws.proofs.line_laws.all_steps_are_printed.Goals as goal

pub returns : goal.returns
returns c = all_steps_are_printed
