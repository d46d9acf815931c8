use Rattle.partition_reports.proofs.SameLemmas.{near_stays_where_no_share_is_reported}
use Rattle.partition_reports.proofs.change_laws.near_stays_where_no_share_is_reported.Goals as goal

pub returns : goal.returns
returns c = near_stays_where_no_share_is_reported
