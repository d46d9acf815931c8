use Rattle.subnet_fabric.proofs.StandingListedLemmas.{a_standing_fabric_is_as_listed}
use Rattle.subnet_fabric.proofs.laws.a_standing_fabric_is_as_listed.Goals as goal

pub returns : goal.returns
returns c = a_standing_fabric_is_as_listed
