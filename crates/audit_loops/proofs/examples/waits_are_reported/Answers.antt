use Rattle.audit_loops.proofs.WaitExampleLemmas.{waits_are_reported}
use Rattle.audit_loops.proofs.examples.waits_are_reported.Goals as goal

pub returns : goal.returns
returns c = waits_are_reported
