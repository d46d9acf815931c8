use Rattle.topology_import.proofs.LawLemmas.{others_are_reported}
use Rattle.topology_import.proofs.laws.others_are_reported.Goals as goal

pub returns : goal.returns
returns c = others_are_reported
