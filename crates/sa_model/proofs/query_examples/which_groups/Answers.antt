use Rattle.sa_model.proofs.QueryExampleLemmas.{which_groups}
use Rattle.sa_model.proofs.query_examples.which_groups.Goals as goal

pub returns : goal.returns
returns c = which_groups
