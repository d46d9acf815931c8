use Rattle.audit_multicast.proofs.MulticastExampleLemmas.{masks_are_found}
use Rattle.audit_multicast.proofs.examples.masks_are_found.Goals as goal

pub returns : goal.returns
returns c = masks_are_found
