use Rattle.sa_replies.proofs.TakenLemmas.{the_greatest_is_taken}
use Rattle.sa_replies.proofs.laws.the_greatest_is_taken.Goals as goal

pub returns : goal.returns
returns c = the_greatest_is_taken
