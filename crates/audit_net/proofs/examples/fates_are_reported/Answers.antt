use Rattle.audit_net.proofs.ExampleLemmas.{fates_are_reported}
use Rattle.audit_net.proofs.examples.fates_are_reported.Goals as goal

pub returns : goal.returns
returns c = fates_are_reported
