use Rattle.joint_laws.proofs.SafeLemmas.{routes_are_safe_with_cables_down}
use Rattle.joint_laws.proofs.route_laws.routes_are_safe_with_cables_down.Goals as goal

pub returns : goal.returns
returns c = routes_are_safe_with_cables_down
