use Rattle.audit_routes.proofs.ExampleLemmas.{deciding_is_reported}
use Rattle.audit_routes.proofs.examples.deciding_is_reported.Goals as goal

pub returns : goal.returns
returns c = deciding_is_reported
