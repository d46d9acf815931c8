use Rattle.sa_model.proofs.DeedLemmas.{set_services_are_there}
use Rattle.sa_model.proofs.service_laws.set_services_are_there.Goals as goal

pub returns : goal.returns
returns c = set_services_are_there
