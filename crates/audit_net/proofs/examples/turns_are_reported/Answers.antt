use Rattle.audit_net.proofs.ExampleLemmas.{turns_are_reported}
use Rattle.audit_net.proofs.examples.turns_are_reported.Goals as goal

pub returns : goal.returns
returns c = turns_are_reported
