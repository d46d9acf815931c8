use Rattle.partition_reports.proofs.MemberLemmas.{members_are_reported}
use Rattle.partition_reports.proofs.change_laws.members_are_reported.Goals as goal

pub returns : goal.returns
returns c = members_are_reported
