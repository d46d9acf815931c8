use Rattle.audit_ports.proofs.WrongLemmas.{later_ports_are_audited}
use Rattle.audit_ports.proofs.wrong_rules.later_ports_are_audited.Goals as goal

pub returns : goal.returns
returns c = later_ports_are_audited
