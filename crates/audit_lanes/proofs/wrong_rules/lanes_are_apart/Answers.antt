use Rattle.audit_lanes.proofs.WrongLemmas.{lanes_are_apart}
use Rattle.audit_lanes.proofs.wrong_rules.lanes_are_apart.Goals as goal

pub returns : goal.returns
returns c = lanes_are_apart
