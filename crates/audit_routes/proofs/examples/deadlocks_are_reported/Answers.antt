use Rattle.audit_routes.proofs.ExampleLemmas.{deadlocks_are_reported}
use Rattle.audit_routes.proofs.examples.deadlocks_are_reported.Goals as goal

pub returns : goal.returns
returns c = deadlocks_are_reported
