use Rattle.sa_model.proofs.GroupExampleLemmas.{who_joins}
use Rattle.sa_model.proofs.group_examples.who_joins.Goals as goal

pub returns : goal.returns
returns c = who_joins
