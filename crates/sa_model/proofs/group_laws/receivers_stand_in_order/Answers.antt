use Rattle.sa_model.proofs.ReceiverLemmas.{receivers_stand_in_order}
use Rattle.sa_model.proofs.group_laws.receivers_stand_in_order.Goals as goal

pub returns : goal.returns
returns c = receivers_stand_in_order
