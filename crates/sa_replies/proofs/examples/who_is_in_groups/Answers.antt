use Rattle.sa_replies.proofs.ExampleLemmas.{who_is_in_groups}
use Rattle.sa_replies.proofs.examples.who_is_in_groups.Goals as goal

pub returns : goal.returns
returns c = who_is_in_groups
