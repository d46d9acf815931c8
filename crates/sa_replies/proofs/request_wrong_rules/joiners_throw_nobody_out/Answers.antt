use Rattle.sa_replies.proofs.RequestWrongLemmas.{joiners_throw_nobody_out}
use Rattle.sa_replies.proofs.request_wrong_rules.joiners_throw_nobody_out.Goals as goal

pub returns : goal.returns
returns c = joiners_throw_nobody_out
