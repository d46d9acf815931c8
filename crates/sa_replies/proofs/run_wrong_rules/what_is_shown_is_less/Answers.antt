use Rattle.sa_replies.proofs.RunWrongLemmas.{what_is_shown_is_less}
use Rattle.sa_replies.proofs.run_wrong_rules.what_is_shown_is_less.Goals as goal

pub returns : goal.returns
returns c = what_is_shown_is_less
