use Rattle.audit_plan.proofs.ExampleLemmas.{hosts_are_found}
use Rattle.audit_plan.proofs.examples.hosts_are_found.Goals as goal

pub returns : goal.returns
returns c = hosts_are_found
