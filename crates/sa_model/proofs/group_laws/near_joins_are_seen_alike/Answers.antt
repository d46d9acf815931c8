use Rattle.sa_model.proofs.JoinSightLemmas.{near_join}
use Rattle.sa_model.proofs.group_laws.near_joins_are_seen_alike.Goals as goal

pub returns : goal.returns
returns c = near_join
