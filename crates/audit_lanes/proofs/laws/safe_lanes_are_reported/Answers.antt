use Rattle.audit_lanes.proofs.SafeLaneLemmas.{safe_lanes_are_reported}
use Rattle.audit_lanes.proofs.laws.safe_lanes_are_reported.Goals as goal

pub returns : goal.returns
returns c = safe_lanes_are_reported
