use Rattle.sa_model.proofs.JoinSightLemmas.{far_join}
use Rattle.sa_model.proofs.group_laws.far_joins_are_not_seen.Goals as goal

pub returns : goal.returns
returns c = far_join
