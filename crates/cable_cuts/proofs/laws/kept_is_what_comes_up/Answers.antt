use Rattle.cable_cuts.proofs.FateLemmas.{kept_is_what_comes_up}
use Rattle.cable_cuts.proofs.laws.kept_is_what_comes_up.Goals as goal

pub returns : goal.returns
returns c = kept_is_what_comes_up
