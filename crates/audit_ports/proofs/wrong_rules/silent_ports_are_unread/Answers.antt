use Rattle.audit_ports.proofs.WrongLemmas.{silent_ports_are_unread}
use Rattle.audit_ports.proofs.wrong_rules.silent_ports_are_unread.Goals as goal

pub returns : goal.returns
returns c = silent_ports_are_unread
