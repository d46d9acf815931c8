use Rattle.audit_plan.proofs.ExampleLemmas.{discoveries_are_taken}
use Rattle.audit_plan.proofs.examples.discoveries_are_taken.Goals as goal

pub returns : goal.returns
returns c = discoveries_are_taken
