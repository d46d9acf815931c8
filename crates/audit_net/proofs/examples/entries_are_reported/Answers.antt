use Rattle.audit_net.proofs.ExampleLemmas.{entries_are_reported}
use Rattle.audit_net.proofs.examples.entries_are_reported.Goals as goal

pub returns : goal.returns
returns c = entries_are_reported
