use Rattle.sa_replies.proofs.RequestWrongLemmas.{joins_move_no_group}
use Rattle.sa_replies.proofs.request_wrong_rules.joins_move_no_group.Goals as goal

pub returns : goal.returns
returns c = joins_move_no_group
