use Rattle.audit_lanes.proofs.LaneLawLemmas.{lane_cycles_wait}
use Rattle.audit_lanes.proofs.laws.lane_cycles_wait.Goals as goal

pub returns : goal.returns
returns c = lane_cycles_wait
