use Rattle.sa_replies.proofs.RunWrongLemmas.{mlids_are_in_common}
use Rattle.sa_replies.proofs.run_wrong_rules.mlids_are_in_common.Goals as goal

pub returns : goal.returns
returns c = mlids_are_in_common
