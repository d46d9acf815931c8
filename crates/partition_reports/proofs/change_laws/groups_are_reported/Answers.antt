use Rattle.partition_reports.proofs.KindLemmas.{groups_are_reported}
use Rattle.partition_reports.proofs.change_laws.groups_are_reported.Goals as goal

pub returns : goal.returns
returns c = groups_are_reported
