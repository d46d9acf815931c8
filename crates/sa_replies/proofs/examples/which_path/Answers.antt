use Rattle.sa_replies.proofs.ExampleLemmas.{which_path}
use Rattle.sa_replies.proofs.examples.which_path.Goals as goal

pub returns : goal.returns
returns c = which_path
