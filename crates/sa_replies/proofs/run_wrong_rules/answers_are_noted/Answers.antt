use Rattle.sa_replies.proofs.RunWrongNoteLemmas.{answers_are_noted}
use Rattle.sa_replies.proofs.run_wrong_rules.answers_are_noted.Goals as goal

pub returns : goal.returns
returns c = answers_are_noted
