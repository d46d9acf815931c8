use Rattle.audit_loads.proofs.WrongLemmas.{first_ports_do_not_add_up}
use Rattle.audit_loads.proofs.wrong_rules.first_ports_do_not_add_up.Goals as goal

pub returns : goal.returns
returns c = first_ports_do_not_add_up
