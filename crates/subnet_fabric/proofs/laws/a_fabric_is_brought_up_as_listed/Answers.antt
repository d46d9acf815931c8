use Rattle.subnet_fabric.proofs.ListedLemmas.{a_fabric_is_brought_up_as_listed}
use Rattle.subnet_fabric.proofs.laws.a_fabric_is_brought_up_as_listed.Goals as goal

pub returns : goal.returns
returns c = a_fabric_is_brought_up_as_listed
