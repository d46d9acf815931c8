use Rattle.joint_laws.proofs.OwnLemmas.{loads_follow_traces}
use Rattle.joint_laws.proofs.trace_laws.loads_follow_traces.Goals as goal

pub returns : goal.returns
returns c = loads_follow_traces
