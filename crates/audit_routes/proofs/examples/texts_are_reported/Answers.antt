use Rattle.audit_routes.proofs.ExampleLemmas.{texts_are_reported}
use Rattle.audit_routes.proofs.examples.texts_are_reported.Goals as goal

pub returns : goal.returns
returns c = texts_are_reported
