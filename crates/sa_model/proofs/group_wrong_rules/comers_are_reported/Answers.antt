use Rattle.sa_model.proofs.GroupWrongLemmas.{comers_are_reported}
use Rattle.sa_model.proofs.group_wrong_rules.comers_are_reported.Goals as goal

pub returns : goal.returns
returns c = comers_are_reported
