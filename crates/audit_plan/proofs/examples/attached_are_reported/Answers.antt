use Rattle.audit_plan.proofs.ExampleLemmas.{attached_are_reported}
use Rattle.audit_plan.proofs.examples.attached_are_reported.Goals as goal

pub returns : goal.returns
returns c = attached_are_reported
