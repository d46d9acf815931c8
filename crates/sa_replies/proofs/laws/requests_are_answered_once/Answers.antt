use Rattle.sa_replies.proofs.OneReplyLemmas.{requests_are_answered_once}
use Rattle.sa_replies.proofs.laws.requests_are_answered_once.Goals as goal

pub returns : goal.returns
returns c = requests_are_answered_once
