use Rattle.audit_multicast.proofs.LoopLawLemmas.{mask_loops_go_round}
use Rattle.audit_multicast.proofs.laws.mask_loops_go_round.Goals as goal

pub returns : goal.returns
returns c = mask_loops_go_round
