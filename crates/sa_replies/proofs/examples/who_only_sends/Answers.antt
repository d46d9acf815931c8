use Rattle.sa_replies.proofs.ExampleLemmas.{who_only_sends}
use Rattle.sa_replies.proofs.examples.who_only_sends.Goals as goal

pub returns : goal.returns
returns c = who_only_sends
