use Rattle.audit_net.proofs.OwnerExampleLemmas.{kinds_are_reported}
use Rattle.audit_net.proofs.owner_examples.kinds_are_reported.Goals as goal

pub returns : goal.returns
returns c = kinds_are_reported
