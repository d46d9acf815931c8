use Rattle.sa_replies.proofs.ChangedLemmas.{others_change_no_receivers}
use Rattle.sa_replies.proofs.laws.others_change_no_receivers.Goals as goal

pub returns : goal.returns
returns c = others_change_no_receivers
