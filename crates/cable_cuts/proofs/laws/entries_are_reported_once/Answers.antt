use Rattle.cable_cuts.proofs.OnceLemmas.{entries_are_reported_once}
use Rattle.cable_cuts.proofs.laws.entries_are_reported_once.Goals as goal

pub returns : goal.returns
returns c = entries_are_reported_once
