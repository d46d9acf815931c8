use Rattle.subnet_fabric.proofs.OneFateLemmas.{too_far_excludes_the_rest}
use Rattle.subnet_fabric.proofs.laws.too_far_excludes_the_rest.Goals as goal

pub returns : goal.returns
returns c = too_far_excludes_the_rest
