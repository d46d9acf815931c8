use Rattle.cable_looks.proofs.StepLemmas.{steps_are_not_quarters}
use Rattle.cable_looks.proofs.wrong_rules.steps_are_not_quarters.Goals as goal

pub returns : goal.returns
returns c = steps_are_not_quarters
