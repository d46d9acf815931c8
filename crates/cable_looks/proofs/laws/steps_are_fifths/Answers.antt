use Rattle.cable_looks.proofs.StepLemmas.{steps_are_fifths}
use Rattle.cable_looks.proofs.laws.steps_are_fifths.Goals as goal

pub returns : goal.returns
returns c = steps_are_fifths
