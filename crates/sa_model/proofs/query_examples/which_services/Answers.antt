use Rattle.sa_model.proofs.QueryExampleLemmas.{which_services}
use Rattle.sa_model.proofs.query_examples.which_services.Goals as goal

pub returns : goal.returns
returns c = which_services
