use Rattle.subnet_core.proofs.StartLemmas.{starts_are_served}
use Rattle.subnet_core.proofs.administration_laws.starts_are_served.Goals as goal

pub returns : goal.returns
returns c = starts_are_served
