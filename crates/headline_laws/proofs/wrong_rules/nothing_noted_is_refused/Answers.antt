use Rattle.headline_laws.proofs.WrongLemmas.{nothing_noted_is_refused}
use Rattle.headline_laws.proofs.wrong_rules.nothing_noted_is_refused.Goals as goal

pub returns : goal.returns
returns c = nothing_noted_is_refused
