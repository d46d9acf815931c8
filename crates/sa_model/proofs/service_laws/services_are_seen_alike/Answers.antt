use Rattle.sa_model.proofs.ServiceLemmas.{shown_place, stays_alike}
use Rattle.sa_model.proofs.service_laws.services_are_seen_alike.Goals as goal

pub returns : goal.returns
returns c = stays_alike shown_place
