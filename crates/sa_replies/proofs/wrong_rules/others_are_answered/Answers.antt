use Rattle.sa_replies.proofs.WrongStateLemmas.{others_are_answered}
use Rattle.sa_replies.proofs.wrong_rules.others_are_answered.Goals as goal

pub returns : goal.returns
returns c = others_are_answered
