use Rattle.sa_replies.proofs.RequestWrongLemmas.{groups_end_with_their_anchors}
use Rattle.sa_replies.proofs.request_wrong_rules.groups_end_with_their_anchors.Goals as goal

pub returns : goal.returns
returns c = groups_end_with_their_anchors
