use Rattle.sa_model.proofs.QueryLemmas.{services_shown_alike}
use Rattle.sa_model.proofs.query_laws.services_are_shown_alike.Goals as goal

pub returns : goal.returns
returns c = services_shown_alike
