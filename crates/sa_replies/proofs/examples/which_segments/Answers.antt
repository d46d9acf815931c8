use Rattle.sa_replies.proofs.ExampleLemmas.{which_segments}
use Rattle.sa_replies.proofs.examples.which_segments.Goals as goal

pub returns : goal.returns
returns c = which_segments
