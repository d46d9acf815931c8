use Rattle.subnet_core.proofs.AfterLemmas.{one_fabric_is_left}
use Rattle.subnet_core.proofs.laws.one_fabric_is_left.Goals as goal

pub returns : goal.returns
returns c = one_fabric_is_left
