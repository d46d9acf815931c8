use Rattle.sa_model.proofs.GroupExampleLemmas.{who_receives}
use Rattle.sa_model.proofs.group_examples.who_receives.Goals as goal

pub returns : goal.returns
returns c = who_receives
