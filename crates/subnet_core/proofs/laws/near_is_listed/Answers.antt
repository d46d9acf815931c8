use Rattle.subnet_core.proofs.HeadlineLemmas.{near_is_listed}
use Rattle.subnet_core.proofs.laws.near_is_listed.Goals as goal

pub returns : goal.returns
returns c = near_is_listed
