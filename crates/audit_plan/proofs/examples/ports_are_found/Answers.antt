use Rattle.audit_plan.proofs.ExampleLemmas.{ports_are_found}
use Rattle.audit_plan.proofs.examples.ports_are_found.Goals as goal

pub returns : goal.returns
returns c = ports_are_found
