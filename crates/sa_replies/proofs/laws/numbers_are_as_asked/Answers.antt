use Rattle.sa_replies.proofs.NumberLemmas.{numbers_are_as_asked}
use Rattle.sa_replies.proofs.laws.numbers_are_as_asked.Goals as goal

pub returns : goal.returns
returns c = numbers_are_as_asked
