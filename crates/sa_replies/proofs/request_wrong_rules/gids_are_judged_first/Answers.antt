use Rattle.sa_replies.proofs.WrongRefusalLemmas.{gids_are_judged_first}
use Rattle.sa_replies.proofs.request_wrong_rules.gids_are_judged_first.Goals as goal

pub returns : goal.returns
returns c = gids_are_judged_first
