use Rattle.audit_lanes.proofs.WrongLemmas.{lanes_decide_on_deadlocks}
use Rattle.audit_lanes.proofs.wrong_rules.lanes_decide_on_deadlocks.Goals as goal

pub returns : goal.returns
returns c = lanes_decide_on_deadlocks
