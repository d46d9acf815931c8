use Rattle.sa_model.proofs.DeliveryLemmas.{reaches_alike}
use Rattle.sa_model.proofs.group_laws.packets_reach_alike.Goals as goal

pub returns : goal.returns
returns c = reaches_alike
