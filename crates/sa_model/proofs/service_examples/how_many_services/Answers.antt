use Rattle.sa_model.proofs.ServiceExampleLemmas.{how_many_services}
use Rattle.sa_model.proofs.service_examples.how_many_services.Goals as goal

pub returns : goal.returns
returns c = how_many_services
