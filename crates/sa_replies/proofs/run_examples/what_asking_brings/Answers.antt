use Rattle.sa_replies.proofs.RunExampleLemmas.{what_asking_brings}
use Rattle.sa_replies.proofs.run_examples.what_asking_brings.Goals as goal

pub returns : goal.returns
returns c = what_asking_brings
