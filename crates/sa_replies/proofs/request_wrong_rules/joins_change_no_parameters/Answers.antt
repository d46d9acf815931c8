use Rattle.sa_replies.proofs.RequestWrongLemmas.{joins_change_no_parameters}
use Rattle.sa_replies.proofs.request_wrong_rules.joins_change_no_parameters.Goals as goal

pub returns : goal.returns
returns c = joins_change_no_parameters
