use Rattle.sa_replies.proofs.WrongLemmas.{deletes_are_not_of_file}
use Rattle.sa_replies.proofs.wrong_rules.deletes_are_not_of_file.Goals as goal

pub returns : goal.returns
returns c = deletes_are_not_of_file
