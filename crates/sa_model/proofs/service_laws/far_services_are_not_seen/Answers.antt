use Rattle.sa_model.proofs.ServiceLemmas.{far_services}
use Rattle.sa_model.proofs.service_laws.far_services_are_not_seen.Goals as goal

pub returns : goal.returns
returns c = far_services
