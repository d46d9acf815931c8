use Rattle.headline_laws.proofs.WrongLemmas.{empty_scripts_are_not_enough}
use Rattle.headline_laws.proofs.wrong_rules.empty_scripts_are_not_enough.Goals as goal

pub returns : goal.returns
returns c = empty_scripts_are_not_enough
