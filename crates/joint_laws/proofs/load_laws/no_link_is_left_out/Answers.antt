use Rattle.joint_laws.proofs.FormLemmas.{no_link_is_left_out}
use Rattle.joint_laws.proofs.load_laws.no_link_is_left_out.Goals as goal

pub returns : goal.returns
returns c = no_link_is_left_out
