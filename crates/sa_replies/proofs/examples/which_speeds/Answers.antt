use Rattle.sa_replies.proofs.ExampleLemmas.{which_speeds}
use Rattle.sa_replies.proofs.examples.which_speeds.Goals as goal

pub returns : goal.returns
returns c = which_speeds
