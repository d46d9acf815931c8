use Rattle.subnet_core.proofs.ServeLemmas.{one_fabric_is_served}
use Rattle.subnet_core.proofs.administration_laws.one_fabric_is_served.Goals as goal

pub returns : goal.returns
returns c = one_fabric_is_served
