use Rattle.sa_model.proofs.ReceiverLemmas.{only_changes_are_reported}
use Rattle.sa_model.proofs.group_laws.only_changes_are_reported.Goals as goal

pub returns : goal.returns
returns c = only_changes_are_reported
