use Rattle.audit_lanes.proofs.WrongLemmas.{one_round_is_not_enough}
use Rattle.audit_lanes.proofs.wrong_rules.one_round_is_not_enough.Goals as goal

pub returns : goal.returns
returns c = one_round_is_not_enough
