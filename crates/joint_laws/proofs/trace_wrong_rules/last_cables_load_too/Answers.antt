use Rattle.joint_laws.proofs.TraceWrongLemmas.{last_cables_load_too}
use Rattle.joint_laws.proofs.trace_wrong_rules.last_cables_load_too.Goals as goal

pub returns : goal.returns
returns c = last_cables_load_too
