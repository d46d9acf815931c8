use Rattle.sa_model.proofs.ServiceLemmas.{near_place, stays_alike}
use Rattle.sa_model.proofs.service_laws.near_services_stay_alike.Goals as goal

pub returns : goal.returns
returns c = stays_alike near_place
