use Rattle.audit_ports.proofs.ExampleLemmas.{strangers_are_reported}
use Rattle.audit_ports.proofs.examples.strangers_are_reported.Goals as goal

pub returns : goal.returns
returns c = strangers_are_reported
