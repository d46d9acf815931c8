use Rattle.sa_replies.proofs.WrongLemmas.{joins_are_of_the_maker}
use Rattle.sa_replies.proofs.wrong_rules.joins_are_of_the_maker.Goals as goal

pub returns : goal.returns
returns c = joins_are_of_the_maker
