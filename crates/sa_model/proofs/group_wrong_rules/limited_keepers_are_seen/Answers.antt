use Rattle.sa_model.proofs.GroupWrongLemmas.{limited_keepers_are_seen}
use Rattle.sa_model.proofs.group_wrong_rules.limited_keepers_are_seen.Goals as goal

pub returns : goal.returns
returns c = limited_keepers_are_seen
