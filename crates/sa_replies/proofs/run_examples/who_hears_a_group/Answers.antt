use Rattle.sa_replies.proofs.RunExampleLemmas.{who_hears_a_group}
use Rattle.sa_replies.proofs.run_examples.who_hears_a_group.Goals as goal

pub returns : goal.returns
returns c = who_hears_a_group
