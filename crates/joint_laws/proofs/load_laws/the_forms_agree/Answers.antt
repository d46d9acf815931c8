use Rattle.joint_laws.proofs.FormLemmas.{the_forms_agree}
use Rattle.joint_laws.proofs.load_laws.the_forms_agree.Goals as goal

pub returns : goal.returns
returns c = the_forms_agree
