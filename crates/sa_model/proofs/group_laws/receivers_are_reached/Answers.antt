use Rattle.sa_model.proofs.ReceiverLemmas.{receivers_are_reached}
use Rattle.sa_model.proofs.group_laws.receivers_are_reached.Goals as goal

pub returns : goal.returns
returns c = receivers_are_reached
