use Rattle.sa_model.proofs.SightLemmas.{near_leave}
use Rattle.sa_model.proofs.group_laws.leaves_are_seen_alike.Goals as goal

pub returns : goal.returns
returns c = near_leave
