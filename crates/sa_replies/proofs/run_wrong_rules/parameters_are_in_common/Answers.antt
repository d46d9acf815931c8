use Rattle.sa_replies.proofs.RunWrongLemmas.{parameters_are_in_common}
use Rattle.sa_replies.proofs.run_wrong_rules.parameters_are_in_common.Goals as goal

pub returns : goal.returns
returns c = parameters_are_in_common
