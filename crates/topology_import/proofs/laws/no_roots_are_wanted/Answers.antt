use Rattle.topology_import.proofs.WrongLemmas.{no_roots_are_wanted}
use Rattle.topology_import.proofs.laws.no_roots_are_wanted.Goals as goal

pub returns : goal.returns
returns c = no_roots_are_wanted
