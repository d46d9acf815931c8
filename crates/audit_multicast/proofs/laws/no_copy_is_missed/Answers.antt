use Rattle.audit_multicast.proofs.CopyLawLemmas.{no_copy_is_missed}
use Rattle.audit_multicast.proofs.laws.no_copy_is_missed.Goals as goal

pub returns : goal.returns
returns c = no_copy_is_missed
