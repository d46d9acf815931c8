use Rattle.smp_wire.proofs.DeliveryLemmas.{deliveries_are_one_list}
use Rattle.smp_wire.proofs.delivery_laws.deliveries_are_one_list.Goals as goal

pub returns : goal.returns
returns c = deliveries_are_one_list
