use Rattle.sa_model.proofs.QueryLemmas.{queries_end_alike}
use Rattle.sa_model.proofs.query_laws.queries_end_alike.Goals as goal

pub returns : goal.returns
returns c = queries_end_alike
