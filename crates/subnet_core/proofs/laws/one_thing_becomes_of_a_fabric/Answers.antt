use Rattle.subnet_core.proofs.FateLemmas.{one_thing_becomes_of_a_fabric}
use Rattle.subnet_core.proofs.laws.one_thing_becomes_of_a_fabric.Goals as goal

pub returns : goal.returns
returns c = one_thing_becomes_of_a_fabric
