use Rattle.audit_net.proofs.ExampleLemmas.{loops_are_reported}
use Rattle.audit_net.proofs.examples.loops_are_reported.Goals as goal

pub returns : goal.returns
returns c = loops_are_reported
