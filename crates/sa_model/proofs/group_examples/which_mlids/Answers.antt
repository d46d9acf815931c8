use Rattle.sa_model.proofs.GroupExampleLemmas.{which_mlids}
use Rattle.sa_model.proofs.group_examples.which_mlids.Goals as goal

pub returns : goal.returns
returns c = which_mlids
