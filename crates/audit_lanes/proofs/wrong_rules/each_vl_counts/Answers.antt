use Rattle.audit_lanes.proofs.WrongLemmas.{each_vl_counts}
use Rattle.audit_lanes.proofs.wrong_rules.each_vl_counts.Goals as goal

pub returns : goal.returns
returns c = each_vl_counts
