use Rattle.audit_net.proofs.OwnerExampleLemmas.{lids_are_had}
use Rattle.audit_net.proofs.owner_examples.lids_are_had.Goals as goal

pub returns : goal.returns
returns c = lids_are_had
