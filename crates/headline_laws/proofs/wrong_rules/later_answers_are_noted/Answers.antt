use Rattle.headline_laws.proofs.WrongLemmas.{later_answers_are_noted}
use Rattle.headline_laws.proofs.wrong_rules.later_answers_are_noted.Goals as goal

pub returns : goal.returns
returns c = later_answers_are_noted
