use Rattle.audit_net.proofs.EndlessLemmas.{loops_never_end}
use Rattle.audit_net.proofs.laws.loops_never_end.Goals as goal

pub returns : goal.returns
returns c = loops_never_end
