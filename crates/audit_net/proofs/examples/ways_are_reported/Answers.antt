use Rattle.audit_net.proofs.ExampleLemmas.{ways_are_reported}
use Rattle.audit_net.proofs.examples.ways_are_reported.Goals as goal

pub returns : goal.returns
returns c = ways_are_reported
