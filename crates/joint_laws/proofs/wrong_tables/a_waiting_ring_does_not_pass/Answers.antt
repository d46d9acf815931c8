use Rattle.joint_laws.proofs.WrongTableLemmas.{a_waiting_ring_does_not_pass}
use Rattle.joint_laws.proofs.wrong_tables.a_waiting_ring_does_not_pass.Goals as goal

pub returns : goal.returns
returns c = a_waiting_ring_does_not_pass
