use Rattle.joint_laws.proofs.FormLemmas.{tables_are_read_back}
use Rattle.joint_laws.proofs.load_laws.tables_are_read_back.Goals as goal

pub returns : goal.returns
returns c = tables_are_read_back
