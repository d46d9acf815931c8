use Rattle.headline_laws.proofs.TextWrongLemmas.{cuts_are_not_heard}
use Rattle.headline_laws.proofs.text_wrong_rules.cuts_are_not_heard.Goals as goal

pub returns : goal.returns
returns c = cuts_are_not_heard
