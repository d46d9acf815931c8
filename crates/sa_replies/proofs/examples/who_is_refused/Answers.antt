use Rattle.sa_replies.proofs.ExampleLemmas.{who_is_refused}
use Rattle.sa_replies.proofs.examples.who_is_refused.Goals as goal

pub returns : goal.returns
returns c = who_is_refused
