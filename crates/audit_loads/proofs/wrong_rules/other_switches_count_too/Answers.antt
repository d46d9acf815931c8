use Rattle.audit_loads.proofs.WrongLemmas.{other_switches_count_too}
use Rattle.audit_loads.proofs.wrong_rules.other_switches_count_too.Goals as goal

pub returns : goal.returns
returns c = other_switches_count_too
