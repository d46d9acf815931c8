use Rattle.sa_model.proofs.QueryLemmas.{answers_from_near}
use Rattle.sa_model.proofs.query_laws.answers_come_from_near.Goals as goal

pub returns : goal.returns
returns c = answers_from_near
