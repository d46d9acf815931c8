use Rattle.sa_model.proofs.ServiceLemmas.{shown_of_near}
use Rattle.sa_model.proofs.service_laws.shown_services_are_near.Goals as goal

pub returns : goal.returns
returns c = shown_of_near
