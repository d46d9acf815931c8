use Rattle.subnet_core.proofs.WrongLemmas.{all_ports_are_not_near}
use Rattle.subnet_core.proofs.laws.all_ports_are_not_near.Goals as goal

pub returns : goal.returns
returns c = all_ports_are_not_near
