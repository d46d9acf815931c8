use Rattle.audit_loads.proofs.WrongLemmas.{silent_ports_do_not_count}
use Rattle.audit_loads.proofs.wrong_rules.silent_ports_do_not_count.Goals as goal

pub returns : goal.returns
returns c = silent_ports_do_not_count
