use Rattle.audit_lanes.proofs.WrongLemmas.{unplaced_lids_count}
use Rattle.audit_lanes.proofs.wrong_rules.unplaced_lids_count.Goals as goal

pub returns : goal.returns
returns c = unplaced_lids_count
