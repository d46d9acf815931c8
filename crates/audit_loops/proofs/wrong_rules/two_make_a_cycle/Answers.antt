use Rattle.audit_loops.proofs.WrongLemmas.{two_make_a_cycle}
use Rattle.audit_loops.proofs.wrong_rules.two_make_a_cycle.Goals as goal

pub returns : goal.returns
returns c = two_make_a_cycle
