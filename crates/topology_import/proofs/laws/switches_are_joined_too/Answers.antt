use Rattle.topology_import.proofs.WrongLemmas.{switches_are_joined_too}
use Rattle.topology_import.proofs.laws.switches_are_joined_too.Goals as goal

pub returns : goal.returns
returns c = switches_are_joined_too
