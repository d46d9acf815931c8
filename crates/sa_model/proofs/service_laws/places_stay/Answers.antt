use Rattle.sa_model.proofs.ServiceLemmas.{places_stay}
use Rattle.sa_model.proofs.service_laws.places_stay.Goals as goal

pub returns : goal.returns
returns c = places_stay
