use Rattle.sa_model.proofs.ChangeLemmas.{partitions_stay}
use Rattle.sa_model.proofs.group_laws.partitions_stay.Goals as goal

pub returns : goal.returns
returns c = partitions_stay
