use Rattle.audit_ports.proofs.WrongLemmas.{other_ports_are_audited}
use Rattle.audit_ports.proofs.wrong_rules.other_ports_are_audited.Goals as goal

pub returns : goal.returns
returns c = other_ports_are_audited
