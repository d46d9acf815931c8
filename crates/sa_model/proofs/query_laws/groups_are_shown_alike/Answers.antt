use Rattle.sa_model.proofs.VisibleLemmas.{groups_alike}
use Rattle.sa_model.proofs.query_laws.groups_are_shown_alike.Goals as goal

pub returns : goal.returns
returns c = groups_alike
