use Rattle.joint_laws.proofs.CutLemmas.{all_cuts_are_printed}
use Rattle.joint_laws.proofs.line_laws.all_cuts_are_printed.Goals as goal

pub returns : goal.returns
returns c = all_cuts_are_printed
