use Rattle.audit_ports.proofs.AuditedLemmas.{each_port_is_audited}
use Rattle.audit_ports.proofs.laws.each_port_is_audited.Goals as goal

pub returns : goal.returns
returns c = each_port_is_audited
