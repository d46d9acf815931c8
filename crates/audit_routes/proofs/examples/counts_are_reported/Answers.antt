use Rattle.audit_routes.proofs.ExampleLemmas.{counts_are_reported}
use Rattle.audit_routes.proofs.examples.counts_are_reported.Goals as goal

pub returns : goal.returns
returns c = counts_are_reported
