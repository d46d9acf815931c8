use Rattle.audit_keys.proofs.ExampleLemmas.{directions_are_read}
use Rattle.audit_keys.proofs.examples.directions_are_read.Goals as goal

pub returns : goal.returns
returns c = directions_are_read
