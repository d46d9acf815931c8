use Rattle.partition_reports.proofs.NearLemmas.{near_is_to_share}
use Rattle.partition_reports.proofs.share_laws.near_is_to_share.Goals as goal

pub returns : goal.returns
returns c = near_is_to_share
