use Rattle.joint_laws.proofs.WrongTableLemmas.{a_cycle_is_not_free}
use Rattle.joint_laws.proofs.wrong_tables.a_cycle_is_not_free.Goals as goal

pub returns : goal.returns
returns c = a_cycle_is_not_free
