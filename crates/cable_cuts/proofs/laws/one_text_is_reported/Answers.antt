use Rattle.cable_cuts.proofs.TextLemmas.{one_text_is_reported}
use Rattle.cable_cuts.proofs.laws.one_text_is_reported.Goals as goal

pub returns : goal.returns
returns c = one_text_is_reported
