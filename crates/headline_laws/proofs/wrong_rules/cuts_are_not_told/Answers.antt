use Rattle.headline_laws.proofs.WrongLemmas.{cuts_are_not_told}
use Rattle.headline_laws.proofs.wrong_rules.cuts_are_not_told.Goals as goal

pub returns : goal.returns
returns c = cuts_are_not_told
