use Rattle.sa_replies.proofs.RunWrongNoteLemmas.{no_bytes_are_less}
use Rattle.sa_replies.proofs.run_wrong_rules.no_bytes_are_less.Goals as goal

pub returns : goal.returns
returns c = no_bytes_are_less
