use Rattle.audit_lanes.proofs.LaneReasonLemmas.{all_reasons_are_named}
use Rattle.audit_lanes.proofs.laws.all_reasons_are_named.Goals as goal

pub returns : goal.returns
returns c = all_reasons_are_named
