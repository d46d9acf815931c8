use Rattle.subnet_fabric.proofs.StandingListedLemmas.{one_cabling_follows}
use Rattle.subnet_fabric.proofs.laws.one_cabling_follows.Goals as goal

pub returns : goal.returns
returns c = one_cabling_follows
