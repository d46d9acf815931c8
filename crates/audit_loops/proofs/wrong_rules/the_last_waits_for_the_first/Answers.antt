use Rattle.audit_loops.proofs.WrongLemmas.{the_last_waits_for_the_first}
use Rattle.audit_loops.proofs.wrong_rules.the_last_waits_for_the_first.Goals as goal

pub returns : goal.returns
returns c = the_last_waits_for_the_first
