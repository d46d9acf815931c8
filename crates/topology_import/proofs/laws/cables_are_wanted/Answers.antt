use Rattle.topology_import.proofs.WrongLemmas.{cables_are_wanted}
use Rattle.topology_import.proofs.laws.cables_are_wanted.Goals as goal

pub returns : goal.returns
returns c = cables_are_wanted
