use Rattle.sa_model.proofs.QueryExampleLemmas.{which_rates}
use Rattle.sa_model.proofs.query_examples.which_rates.Goals as goal

pub returns : goal.returns
returns c = which_rates
