use Rattle.sa_model.proofs.ServiceExampleLemmas.{who_deletes}
use Rattle.sa_model.proofs.service_examples.who_deletes.Goals as goal

pub returns : goal.returns
returns c = who_deletes
