use Rattle.topology_import.proofs.WrongLemmas.{ends_are_wanted}
use Rattle.topology_import.proofs.laws.ends_are_wanted.Goals as goal

pub returns : goal.returns
returns c = ends_are_wanted
