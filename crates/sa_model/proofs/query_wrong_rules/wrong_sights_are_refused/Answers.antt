use Rattle.sa_model.proofs.ServicesShownWrongLemmas.{wrong_sights_are_refused}
use Rattle.sa_model.proofs.query_wrong_rules.wrong_sights_are_refused.Goals as goal

pub returns : goal.returns
returns c = wrong_sights_are_refused
