use Rattle.partition_reports.proofs.NearMemberLemmas.{near_stays_where_no_member_is_reported}
use Rattle.partition_reports.proofs.change_laws.near_stays_where_no_member_is_reported.Goals as goal

pub returns : goal.returns
returns c = near_stays_where_no_member_is_reported
