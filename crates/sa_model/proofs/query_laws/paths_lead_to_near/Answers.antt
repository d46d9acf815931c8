use Rattle.sa_model.proofs.NearLemmas.{paths_lead_to_near}
use Rattle.sa_model.proofs.query_laws.paths_lead_to_near.Goals as goal

pub returns : goal.returns
returns c = paths_lead_to_near
