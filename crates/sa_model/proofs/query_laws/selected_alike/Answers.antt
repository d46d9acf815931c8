use Rattle.sa_model.proofs.QueryLemmas.{selected_alike}
use Rattle.sa_model.proofs.query_laws.selected_alike.Goals as goal

pub returns : goal.returns
returns c = selected_alike
