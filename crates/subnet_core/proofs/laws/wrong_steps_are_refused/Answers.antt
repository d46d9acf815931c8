use Rattle.subnet_core.proofs.StepLawLemmas.{wrong_steps_are_refused}
use Rattle.subnet_core.proofs.laws.wrong_steps_are_refused.Goals as goal

pub returns : goal.returns
returns c = wrong_steps_are_refused
