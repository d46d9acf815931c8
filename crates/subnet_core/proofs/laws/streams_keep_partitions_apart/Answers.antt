use Rattle.subnet_core.proofs.HeadlineLemmas.{streams_keep_partitions_apart}
use Rattle.subnet_core.proofs.laws.streams_keep_partitions_apart.Goals as goal

pub returns : goal.returns
returns c = streams_keep_partitions_apart
