use Rattle.sa_replies.proofs.RequestWrongLemmas.{joiners_are_no_makers}
use Rattle.sa_replies.proofs.request_wrong_rules.joiners_are_no_makers.Goals as goal

pub returns : goal.returns
returns c = joiners_are_no_makers
