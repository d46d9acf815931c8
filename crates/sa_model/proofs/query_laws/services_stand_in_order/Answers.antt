use Rattle.sa_model.proofs.OrderLemmas.{services_stand_in_order}
use Rattle.sa_model.proofs.query_laws.services_stand_in_order.Goals as goal

pub returns : goal.returns
returns c = services_stand_in_order
