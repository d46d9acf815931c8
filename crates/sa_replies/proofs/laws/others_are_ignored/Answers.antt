use Rattle.sa_replies.proofs.OneReplyLemmas.{others_are_ignored}
use Rattle.sa_replies.proofs.laws.others_are_ignored.Goals as goal

pub returns : goal.returns
returns c = others_are_ignored
