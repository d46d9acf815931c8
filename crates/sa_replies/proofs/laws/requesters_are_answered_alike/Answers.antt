use Rattle.sa_replies.proofs.AlikeLemmas.{requesters_alike}
use Rattle.sa_replies.proofs.laws.requesters_are_answered_alike.Goals as goal

pub returns : goal.returns
returns c = requesters_alike
