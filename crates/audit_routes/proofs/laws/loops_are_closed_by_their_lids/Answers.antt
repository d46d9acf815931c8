use Rattle.audit_routes.proofs.ClosingLemmas.{loops_are_closed_by_their_lids}
use Rattle.audit_routes.proofs.laws.loops_are_closed_by_their_lids.Goals as goal

pub returns : goal.returns
returns c = loops_are_closed_by_their_lids
