use Rattle.audit_ports.proofs.WrongLemmas.{ports_are_audited_once}
use Rattle.audit_ports.proofs.wrong_rules.ports_are_audited_once.Goals as goal

pub returns : goal.returns
returns c = ports_are_audited_once
