use Rattle.audit_lanes.proofs.LaneLawLemmas.{no_lane_cycle_is_missed}
use Rattle.audit_lanes.proofs.laws.no_lane_cycle_is_missed.Goals as goal

pub returns : goal.returns
returns c = no_lane_cycle_is_missed
