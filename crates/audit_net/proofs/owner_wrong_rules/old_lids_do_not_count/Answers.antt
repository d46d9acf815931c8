use Rattle.audit_net.proofs.OwnerWrongLemmas.{old_lids_do_not_count}
use Rattle.audit_net.proofs.owner_wrong_rules.old_lids_do_not_count.Goals as goal

pub returns : goal.returns
returns c = old_lids_do_not_count
