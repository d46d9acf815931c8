use Rattle.joint_laws.proofs.OwnLemmas.{own_loads_follow_traces}
use Rattle.joint_laws.proofs.trace_laws.own_loads_follow_traces.Goals as goal

pub returns : goal.returns
returns c = own_loads_follow_traces
