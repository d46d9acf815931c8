use Rattle.joint_laws.proofs.PictureLemmas.{all_is_drawn}
use Rattle.joint_laws.proofs.line_laws.all_is_drawn.Goals as goal

pub returns : goal.returns
returns c = all_is_drawn
