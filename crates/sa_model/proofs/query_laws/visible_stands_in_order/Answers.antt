use Rattle.sa_model.proofs.OrderLemmas.{stands_in_order}
use Rattle.sa_model.proofs.query_laws.visible_stands_in_order.Goals as goal

pub returns : goal.returns
returns c = stands_in_order
