use Rattle.headline_laws.proofs.WrongLemmas.{far_sends_are_not_repeated}
use Rattle.headline_laws.proofs.wrong_rules.far_sends_are_not_repeated.Goals as goal

pub returns : goal.returns
returns c = far_sends_are_not_repeated
