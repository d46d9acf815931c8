use Rattle.audit_routes.proofs.ExampleLemmas.{asks_are_reported}
use Rattle.audit_routes.proofs.examples.asks_are_reported.Goals as goal

pub returns : goal.returns
returns c = asks_are_reported
