use Rattle.audit_routes.proofs.ExampleLemmas.{verdicts_are_reported}
use Rattle.audit_routes.proofs.examples.verdicts_are_reported.Goals as goal

pub returns : goal.returns
returns c = verdicts_are_reported
