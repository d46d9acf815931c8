use Rattle.subnet_fabric.proofs.OneFateLemmas.{one_pair_has_no_path}
use Rattle.subnet_fabric.proofs.laws.one_pair_has_no_path.Goals as goal

pub returns : goal.returns
returns c = one_pair_has_no_path
