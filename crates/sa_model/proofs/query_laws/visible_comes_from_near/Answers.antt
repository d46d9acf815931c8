use Rattle.sa_model.proofs.NearLemmas.{visible_from_near}
use Rattle.sa_model.proofs.query_laws.visible_comes_from_near.Goals as goal

pub returns : goal.returns
returns c = visible_from_near
