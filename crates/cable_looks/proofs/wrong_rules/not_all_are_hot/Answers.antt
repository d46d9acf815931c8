use Rattle.cable_looks.proofs.StepLemmas.{not_all_are_hot}
use Rattle.cable_looks.proofs.wrong_rules.not_all_are_hot.Goals as goal

pub returns : goal.returns
returns c = not_all_are_hot
