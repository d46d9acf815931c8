use Rattle.partition_reports.proofs.KindLemmas.{partitions_are_reported}
use Rattle.partition_reports.proofs.change_laws.partitions_are_reported.Goals as goal

pub returns : goal.returns
returns c = partitions_are_reported
