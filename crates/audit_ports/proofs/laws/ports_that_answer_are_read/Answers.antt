use Rattle.audit_ports.proofs.AuditedLemmas.{ports_that_answer_are_read}
use Rattle.audit_ports.proofs.laws.ports_that_answer_are_read.Goals as goal

pub returns : goal.returns
returns c = ports_that_answer_are_read
