use Rattle.subnet_fabric.proofs.RecabledGroupLemmas.{masks_keep_it_up}
use Rattle.subnet_fabric.proofs.laws.masks_keep_it_up.Goals as goal

pub returns : goal.returns
returns c = masks_keep_it_up
