use Rattle.sa_model.proofs.QueryExampleLemmas.{which_nodes}
use Rattle.sa_model.proofs.query_examples.which_nodes.Goals as goal

pub returns : goal.returns
returns c = which_nodes
