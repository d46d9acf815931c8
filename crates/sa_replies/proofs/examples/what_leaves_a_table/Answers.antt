use Rattle.sa_replies.proofs.ExampleLemmas.{what_leaves_a_table}
use Rattle.sa_replies.proofs.examples.what_leaves_a_table.Goals as goal

pub returns : goal.returns
returns c = what_leaves_a_table
