use Rattle.sa_replies.proofs.RequestWrongLemmas.{others_do_not_leave}
use Rattle.sa_replies.proofs.request_wrong_rules.others_do_not_leave.Goals as goal

pub returns : goal.returns
returns c = others_do_not_leave
