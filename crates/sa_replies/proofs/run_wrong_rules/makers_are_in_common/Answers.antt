use Rattle.sa_replies.proofs.RunWrongLemmas.{makers_are_in_common}
use Rattle.sa_replies.proofs.run_wrong_rules.makers_are_in_common.Goals as goal

pub returns : goal.returns
returns c = makers_are_in_common
