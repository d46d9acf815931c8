use Rattle.subnet_fabric.proofs.StandingListedLemmas.{masks_let_it_stand}
use Rattle.subnet_fabric.proofs.laws.masks_let_it_stand.Goals as goal

pub returns : goal.returns
returns c = masks_let_it_stand
