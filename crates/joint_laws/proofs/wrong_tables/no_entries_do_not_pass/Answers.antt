use Rattle.joint_laws.proofs.WrongTableLemmas.{no_entries_do_not_pass}
use Rattle.joint_laws.proofs.wrong_tables.no_entries_do_not_pass.Goals as goal

pub returns : goal.returns
returns c = no_entries_do_not_pass
