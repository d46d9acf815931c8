use Rattle.sa_model.proofs.GroupWrongLemmas.{mgids_alone_are_seen}
use Rattle.sa_model.proofs.group_wrong_rules.mgids_alone_are_seen.Goals as goal

pub returns : goal.returns
returns c = mgids_alone_are_seen
