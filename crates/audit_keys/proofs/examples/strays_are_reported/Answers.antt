use Rattle.audit_keys.proofs.ExampleLemmas.{strays_are_reported}
use Rattle.audit_keys.proofs.examples.strays_are_reported.Goals as goal

pub returns : goal.returns
returns c = strays_are_reported
