use Rattle.sa_model.proofs.GroupWrongLemmas.{senders_are_reached}
use Rattle.sa_model.proofs.group_wrong_rules.senders_are_reached.Goals as goal

pub returns : goal.returns
returns c = senders_are_reached
