use Rattle.joint_laws.proofs.WrongTableLemmas.{a_loop_does_not_pass}
use Rattle.joint_laws.proofs.wrong_tables.a_loop_does_not_pass.Goals as goal

pub returns : goal.returns
returns c = a_loop_does_not_pass
