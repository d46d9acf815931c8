use Rattle.joint_laws.proofs.OwnRowLemmas.{own_rows_show_all}
use Rattle.joint_laws.proofs.load_laws.own_rows_show_all.Goals as goal

pub returns : goal.returns
returns c = own_rows_show_all
