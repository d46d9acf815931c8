use Rattle.sa_model.proofs.QueryExampleLemmas.{which_paths}
use Rattle.sa_model.proofs.query_examples.which_paths.Goals as goal

pub returns : goal.returns
returns c = which_paths
