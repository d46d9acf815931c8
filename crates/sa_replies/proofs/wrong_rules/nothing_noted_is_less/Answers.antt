use Rattle.sa_replies.proofs.WrongLemmas.{nothing_noted_is_less}
use Rattle.sa_replies.proofs.wrong_rules.nothing_noted_is_less.Goals as goal

pub returns : goal.returns
returns c = nothing_noted_is_less
