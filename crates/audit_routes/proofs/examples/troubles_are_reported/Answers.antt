use Rattle.audit_routes.proofs.ExampleLemmas.{troubles_are_reported}
use Rattle.audit_routes.proofs.examples.troubles_are_reported.Goals as goal

pub returns : goal.returns
returns c = troubles_are_reported
