use Rattle.audit_multicast.proofs.LoopLawLemmas.{no_mask_loop_is_missed}
use Rattle.audit_multicast.proofs.laws.no_mask_loop_is_missed.Goals as goal

pub returns : goal.returns
returns c = no_mask_loop_is_missed
