use Rattle.sa_replies.proofs.ExampleLemmas.{which_partitions}
use Rattle.sa_replies.proofs.examples.which_partitions.Goals as goal

pub returns : goal.returns
returns c = which_partitions
