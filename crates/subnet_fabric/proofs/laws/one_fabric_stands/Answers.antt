use Rattle.subnet_fabric.proofs.StandingListedLemmas.{one_fabric_stands}
use Rattle.subnet_fabric.proofs.laws.one_fabric_stands.Goals as goal

pub returns : goal.returns
returns c = one_fabric_stands
