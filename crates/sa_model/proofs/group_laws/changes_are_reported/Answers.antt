use Rattle.sa_model.proofs.ReceiverLemmas.{changes_are_reported}
use Rattle.sa_model.proofs.group_laws.changes_are_reported.Goals as goal

pub returns : goal.returns
returns c = changes_are_reported
