use Rattle.joint_laws.proofs.WrongTableLemmas.{a_hole_does_not_pass}
use Rattle.joint_laws.proofs.wrong_tables.a_hole_does_not_pass.Goals as goal

pub returns : goal.returns
returns c = a_hole_does_not_pass
