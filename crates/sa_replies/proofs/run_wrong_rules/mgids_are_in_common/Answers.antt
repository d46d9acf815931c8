use Rattle.sa_replies.proofs.RunWrongLemmas.{mgids_are_in_common}
use Rattle.sa_replies.proofs.run_wrong_rules.mgids_are_in_common.Goals as goal

pub returns : goal.returns
returns c = mgids_are_in_common
