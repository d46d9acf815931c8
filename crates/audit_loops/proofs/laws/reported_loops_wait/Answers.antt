use Rattle.audit_loops.proofs.CycleLawLemmas.{reported_loops_wait}
use Rattle.audit_loops.proofs.laws.reported_loops_wait.Goals as goal

pub returns : goal.returns
returns c = reported_loops_wait
