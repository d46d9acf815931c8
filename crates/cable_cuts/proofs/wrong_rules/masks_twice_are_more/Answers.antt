use Rattle.cable_cuts.proofs.WrongLemmas.{masks_twice_are_more}
use Rattle.cable_cuts.proofs.wrong_rules.masks_twice_are_more.Goals as goal

pub returns : goal.returns
returns c = masks_twice_are_more
