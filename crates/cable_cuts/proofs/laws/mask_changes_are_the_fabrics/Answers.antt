use Rattle.cable_cuts.proofs.MaskChangeLemmas.{mask_changes_are_the_fabrics}
use Rattle.cable_cuts.proofs.laws.mask_changes_are_the_fabrics.Goals as goal

pub returns : goal.returns
returns c = mask_changes_are_the_fabrics
