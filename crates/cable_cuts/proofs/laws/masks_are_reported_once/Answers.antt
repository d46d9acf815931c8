use Rattle.cable_cuts.proofs.OnceLemmas.{masks_are_reported_once}
use Rattle.cable_cuts.proofs.laws.masks_are_reported_once.Goals as goal

pub returns : goal.returns
returns c = masks_are_reported_once
