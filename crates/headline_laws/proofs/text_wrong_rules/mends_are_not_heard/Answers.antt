use Rattle.headline_laws.proofs.TextWrongLemmas.{mends_are_not_heard}
use Rattle.headline_laws.proofs.text_wrong_rules.mends_are_not_heard.Goals as goal

pub returns : goal.returns
returns c = mends_are_not_heard
