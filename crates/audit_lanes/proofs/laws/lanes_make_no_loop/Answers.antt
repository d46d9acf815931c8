use Rattle.audit_lanes.proofs.LaneLawLemmas.{lanes_make_no_loop}
use Rattle.audit_lanes.proofs.laws.lanes_make_no_loop.Goals as goal

pub returns : goal.returns
returns c = lanes_make_no_loop
