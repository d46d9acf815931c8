use Rattle.rmpp_core.proofs.WholeLemmas.{received}
use Rattle.rmpp_core.proofs.laws.segments_are_received.Goals as goal

pub returns : goal.returns
returns c = received
