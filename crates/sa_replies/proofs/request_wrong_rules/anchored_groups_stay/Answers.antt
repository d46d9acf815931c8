use Rattle.sa_replies.proofs.RequestWrongLemmas.{anchored_groups_stay}
use Rattle.sa_replies.proofs.request_wrong_rules.anchored_groups_stay.Goals as goal

pub returns : goal.returns
returns c = anchored_groups_stay
