use Rattle.audit_ports.proofs.WrongLemmas.{unread_ports_are_audited}
use Rattle.audit_ports.proofs.wrong_rules.unread_ports_are_audited.Goals as goal

pub returns : goal.returns
returns c = unread_ports_are_audited
