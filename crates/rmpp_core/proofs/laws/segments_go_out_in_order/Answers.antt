use Rattle.rmpp_core.proofs.AckLemmas.{in_order}
use Rattle.rmpp_core.proofs.laws.segments_go_out_in_order.Goals as goal

pub returns : goal.returns
returns c = in_order
