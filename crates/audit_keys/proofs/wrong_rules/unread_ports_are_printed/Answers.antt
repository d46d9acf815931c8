use Rattle.audit_keys.proofs.WrongPrintLemmas.{unread_ports_are_printed}
use Rattle.audit_keys.proofs.wrong_rules.unread_ports_are_printed.Goals as goal

pub returns : goal.returns
returns c = unread_ports_are_printed
