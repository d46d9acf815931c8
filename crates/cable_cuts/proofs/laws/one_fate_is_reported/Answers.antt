use Rattle.cable_cuts.proofs.FateLemmas.{one_fate_is_reported}
use Rattle.cable_cuts.proofs.laws.one_fate_is_reported.Goals as goal

pub returns : goal.returns
returns c = one_fate_is_reported
