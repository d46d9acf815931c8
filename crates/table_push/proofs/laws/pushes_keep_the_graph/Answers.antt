use Rattle.table_push.proofs.KeptLemmas.{pushes_keep_the_graph}
use Rattle.table_push.proofs.laws.pushes_keep_the_graph.Goals as goal

pub returns : goal.returns
returns c = pushes_keep_the_graph
