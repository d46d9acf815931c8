use Rattle.sa_replies.proofs.TransferLemmas.{methods_are_not_looked_at}
use Rattle.sa_replies.proofs.wrong_rules.methods_are_not_looked_at.Goals as goal

pub returns : goal.returns
returns c = methods_are_not_looked_at
