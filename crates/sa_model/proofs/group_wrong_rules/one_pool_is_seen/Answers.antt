use Rattle.sa_model.proofs.GroupWrongLemmas.{one_pool_is_seen}
use Rattle.sa_model.proofs.group_wrong_rules.one_pool_is_seen.Goals as goal

pub returns : goal.returns
returns c = one_pool_is_seen
