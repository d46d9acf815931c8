use Rattle.subnet_fabric.proofs.StandingListedLemmas.{brought_up_stands}
use Rattle.subnet_fabric.proofs.laws.brought_up_stands.Goals as goal

pub returns : goal.returns
returns c = brought_up_stands
