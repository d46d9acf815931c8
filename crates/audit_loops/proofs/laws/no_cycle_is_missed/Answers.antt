use Rattle.audit_loops.proofs.CycleLawLemmas.{no_cycle_is_missed}
use Rattle.audit_loops.proofs.laws.no_cycle_is_missed.Goals as goal

pub returns : goal.returns
returns c = no_cycle_is_missed
