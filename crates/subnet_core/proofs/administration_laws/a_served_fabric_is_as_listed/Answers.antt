use Rattle.subnet_core.proofs.ListedLemmas.{a_served_fabric_is_as_listed}
use Rattle.subnet_core.proofs.administration_laws.a_served_fabric_is_as_listed.Goals as goal

pub returns : goal.returns
returns c = a_served_fabric_is_as_listed
