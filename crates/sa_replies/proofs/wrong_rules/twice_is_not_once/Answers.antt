use Rattle.sa_replies.proofs.WrongStateLemmas.{twice_is_not_once}
use Rattle.sa_replies.proofs.wrong_rules.twice_is_not_once.Goals as goal

pub returns : goal.returns
returns c = twice_is_not_once
