use Rattle.sa_model.proofs.ServiceLemmas.{services_depend}
use Rattle.sa_model.proofs.service_laws.services_depend_on_near.Goals as goal

pub returns : goal.returns
returns c = services_depend
