use Rattle.topology_import.proofs.WrongLemmas.{the_manager_is_wanted}
use Rattle.topology_import.proofs.laws.the_manager_is_wanted.Goals as goal

pub returns : goal.returns
returns c = the_manager_is_wanted
