use Rattle.topology_import.proofs.WrongLemmas.{lines_are_wanted}
use Rattle.topology_import.proofs.laws.lines_are_wanted.Goals as goal

pub returns : goal.returns
returns c = lines_are_wanted
