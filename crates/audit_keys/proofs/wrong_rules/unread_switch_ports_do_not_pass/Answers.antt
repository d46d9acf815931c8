use Rattle.audit_keys.proofs.WrongLemmas.{unread_switch_ports_do_not_pass}
use Rattle.audit_keys.proofs.wrong_rules.unread_switch_ports_do_not_pass.Goals as goal

pub returns : goal.returns
returns c = unread_switch_ports_do_not_pass
