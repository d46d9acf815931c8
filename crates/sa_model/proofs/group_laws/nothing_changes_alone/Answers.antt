use Rattle.sa_model.proofs.ReceiverLemmas.{nothing_changes_alone}
use Rattle.sa_model.proofs.group_laws.nothing_changes_alone.Goals as goal

pub returns : goal.returns
returns c = nothing_changes_alone
