use Rattle.subnet_fabric.proofs.OneTableLemmas.{one_table_is_left}
use Rattle.subnet_fabric.proofs.laws.one_table_is_left.Goals as goal

pub returns : goal.returns
returns c = one_table_is_left
