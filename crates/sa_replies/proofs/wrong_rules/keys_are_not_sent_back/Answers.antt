use Rattle.sa_replies.proofs.WrongStateLemmas.{keys_are_not_sent_back}
use Rattle.sa_replies.proofs.wrong_rules.keys_are_not_sent_back.Goals as goal

pub returns : goal.returns
returns c = keys_are_not_sent_back
