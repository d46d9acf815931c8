use Rattle.audit_loads.proofs.WrongLemmas.{ports_count_from_1}
use Rattle.audit_loads.proofs.wrong_rules.ports_count_from_1.Goals as goal

pub returns : goal.returns
returns c = ports_count_from_1
