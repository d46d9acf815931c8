use Rattle.cable_cuts.proofs.WrongLemmas.{no_masks_are_less}
use Rattle.cable_cuts.proofs.wrong_rules.no_masks_are_less.Goals as goal

pub returns : goal.returns
returns c = no_masks_are_less
