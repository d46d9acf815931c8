use Rattle.sa_replies.proofs.RunWrongNoteLemmas.{sends_are_noted}
use Rattle.sa_replies.proofs.run_wrong_rules.sends_are_noted.Goals as goal

pub returns : goal.returns
returns c = sends_are_noted
