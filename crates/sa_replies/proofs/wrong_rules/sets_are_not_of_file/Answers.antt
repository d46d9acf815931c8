use Rattle.sa_replies.proofs.WrongLemmas.{sets_are_not_of_file}
use Rattle.sa_replies.proofs.wrong_rules.sets_are_not_of_file.Goals as goal

pub returns : goal.returns
returns c = sets_are_not_of_file
