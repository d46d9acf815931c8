use Rattle.sa_model.proofs.ReceiverLemmas.{joins_change_one}
use Rattle.sa_model.proofs.group_laws.joins_change_one.Goals as goal

pub returns : goal.returns
returns c = joins_change_one
