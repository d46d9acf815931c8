use Rattle.audit_lanes.proofs.WrongLemmas.{one_more_is_not_enough}
use Rattle.audit_lanes.proofs.wrong_rules.one_more_is_not_enough.Goals as goal

pub returns : goal.returns
returns c = one_more_is_not_enough
