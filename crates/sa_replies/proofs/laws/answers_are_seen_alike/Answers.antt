use Rattle.sa_replies.proofs.OtherLemmas.{answers_alike}
use Rattle.sa_replies.proofs.laws.answers_are_seen_alike.Goals as goal

pub returns : goal.returns
returns c = answers_alike
