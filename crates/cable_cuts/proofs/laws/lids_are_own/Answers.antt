use Rattle.cable_cuts.proofs.OnceLemmas.{lids_are_own}
use Rattle.cable_cuts.proofs.laws.lids_are_own.Goals as goal

pub returns : goal.returns
returns c = lids_are_own
