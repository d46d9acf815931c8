use Rattle.sa_model.proofs.ServiceExampleLemmas.{who_sees_services}
use Rattle.sa_model.proofs.service_examples.who_sees_services.Goals as goal

pub returns : goal.returns
returns c = who_sees_services
