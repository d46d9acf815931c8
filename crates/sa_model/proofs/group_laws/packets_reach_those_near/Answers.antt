use Rattle.sa_model.proofs.DeliveryLemmas.{reached_is_near}
use Rattle.sa_model.proofs.group_laws.packets_reach_those_near.Goals as goal

pub returns : goal.returns
returns c = reached_is_near
