use Rattle.sa_model.proofs.QueryLemmas.{queries_depend}
use Rattle.sa_model.proofs.query_laws.queries_depend_on_near.Goals as goal

pub returns : goal.returns
returns c = queries_depend
