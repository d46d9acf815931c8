use Rattle.sa_model.proofs.GroupExampleLemmas.{who_leaves}
use Rattle.sa_model.proofs.group_examples.who_leaves.Goals as goal

pub returns : goal.returns
returns c = who_leaves
