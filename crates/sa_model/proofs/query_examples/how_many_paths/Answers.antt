use Rattle.sa_model.proofs.QueryExampleLemmas.{how_many_paths}
use Rattle.sa_model.proofs.query_examples.how_many_paths.Goals as goal

pub returns : goal.returns
returns c = how_many_paths
