use Rattle.sa_replies.proofs.ChangedLemmas.{refused_change_no_receivers}
use Rattle.sa_replies.proofs.laws.refused_change_no_receivers.Goals as goal

pub returns : goal.returns
returns c = refused_change_no_receivers
