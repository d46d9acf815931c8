use Rattle.audit_routes.proofs.ExampleLemmas.{lacks_are_reported}
use Rattle.audit_routes.proofs.examples.lacks_are_reported.Goals as goal

pub returns : goal.returns
returns c = lacks_are_reported
