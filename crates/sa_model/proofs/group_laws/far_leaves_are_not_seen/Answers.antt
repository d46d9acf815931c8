use Rattle.sa_model.proofs.SightLemmas.{far_leave}
use Rattle.sa_model.proofs.group_laws.far_leaves_are_not_seen.Goals as goal

pub returns : goal.returns
returns c = far_leave
