use Rattle.topology_import.proofs.WrongLemmas.{near_ends_alone_are_not_enough}
use Rattle.topology_import.proofs.laws.near_ends_alone_are_not_enough.Goals as goal

pub returns : goal.returns
returns c = near_ends_alone_are_not_enough
