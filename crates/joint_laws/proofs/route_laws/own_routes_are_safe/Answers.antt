use Rattle.joint_laws.proofs.SafeLemmas.{own_routes_are_safe}
use Rattle.joint_laws.proofs.route_laws.own_routes_are_safe.Goals as goal

pub returns : goal.returns
returns c = own_routes_are_safe
