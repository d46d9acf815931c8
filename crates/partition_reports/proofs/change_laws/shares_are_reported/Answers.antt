use Rattle.partition_reports.proofs.ShareReportedLemmas.{shares_are_reported}
use Rattle.partition_reports.proofs.change_laws.shares_are_reported.Goals as goal

pub returns : goal.returns
returns c = shares_are_reported
