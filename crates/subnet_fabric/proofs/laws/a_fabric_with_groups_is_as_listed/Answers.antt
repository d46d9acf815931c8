use Rattle.subnet_fabric.proofs.GroupLemmas.{a_fabric_with_groups_is_as_listed}
use Rattle.subnet_fabric.proofs.laws.a_fabric_with_groups_is_as_listed.Goals as goal

pub returns : goal.returns
returns c = a_fabric_with_groups_is_as_listed
