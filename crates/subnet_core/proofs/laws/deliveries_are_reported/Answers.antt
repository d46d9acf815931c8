use Rattle.subnet_core.proofs.StepLawLemmas.{deliveries_are_reported}
use Rattle.subnet_core.proofs.laws.deliveries_are_reported.Goals as goal

pub returns : goal.returns
returns c = deliveries_are_reported
