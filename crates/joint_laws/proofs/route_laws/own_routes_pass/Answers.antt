use Rattle.joint_laws.proofs.PassLemmas.{own_routes_pass}
use Rattle.joint_laws.proofs.route_laws.own_routes_pass.Goals as goal

pub returns : goal.returns
returns c = own_routes_pass
