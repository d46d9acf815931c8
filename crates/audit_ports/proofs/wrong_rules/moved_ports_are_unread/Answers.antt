use Rattle.audit_ports.proofs.WrongLemmas.{moved_ports_are_unread}
use Rattle.audit_ports.proofs.wrong_rules.moved_ports_are_unread.Goals as goal

pub returns : goal.returns
returns c = moved_ports_are_unread
