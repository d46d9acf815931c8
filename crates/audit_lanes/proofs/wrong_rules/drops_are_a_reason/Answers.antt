use Rattle.audit_lanes.proofs.WrongLemmas.{drops_are_a_reason}
use Rattle.audit_lanes.proofs.wrong_rules.drops_are_a_reason.Goals as goal

pub returns : goal.returns
returns c = drops_are_a_reason
