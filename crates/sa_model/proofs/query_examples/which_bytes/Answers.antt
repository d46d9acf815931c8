use Rattle.sa_model.proofs.QueryExampleLemmas.{which_bytes}
use Rattle.sa_model.proofs.query_examples.which_bytes.Goals as goal

pub returns : goal.returns
returns c = which_bytes
