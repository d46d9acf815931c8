use Rattle.audit_net.proofs.OwnerWrongLemmas.{reported_lids_count}
use Rattle.audit_net.proofs.owner_wrong_rules.reported_lids_count.Goals as goal

pub returns : goal.returns
returns c = reported_lids_count
