use Rattle.updn_routes.proofs.OrderLemmas.{ranks_order}
use Rattle.updn_routes.proofs.laws.ranks_and_guids_order.Goals as goal

pub returns : goal.returns
returns c = ranks_order
