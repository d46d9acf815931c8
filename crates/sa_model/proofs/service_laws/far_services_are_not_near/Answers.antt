use Rattle.sa_model.proofs.ServiceLemmas.{far_not_near}
use Rattle.sa_model.proofs.service_laws.far_services_are_not_near.Goals as goal

pub returns : goal.returns
returns c = far_not_near
