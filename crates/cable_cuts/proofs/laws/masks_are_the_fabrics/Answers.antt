use Rattle.cable_cuts.proofs.FateLemmas.{masks_are_the_fabrics}
use Rattle.cable_cuts.proofs.laws.masks_are_the_fabrics.Goals as goal

pub returns : goal.returns
returns c = masks_are_the_fabrics
