use Rattle.joint_laws.proofs.SafeLemmas.{some_carries}
use Rattle.joint_laws.proofs.route_laws.some_switch_carries_a_host.Goals as goal

pub returns : goal.returns
returns c = some_carries
