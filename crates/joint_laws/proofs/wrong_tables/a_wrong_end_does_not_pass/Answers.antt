use Rattle.joint_laws.proofs.WrongTableLemmas.{a_wrong_end_does_not_pass}
use Rattle.joint_laws.proofs.wrong_tables.a_wrong_end_does_not_pass.Goals as goal

pub returns : goal.returns
returns c = a_wrong_end_does_not_pass
