use Rattle.sa_model.proofs.DeedLemmas.{deleted_services_are_gone}
use Rattle.sa_model.proofs.service_laws.deleted_services_are_gone.Goals as goal

pub returns : goal.returns
returns c = deleted_services_are_gone
