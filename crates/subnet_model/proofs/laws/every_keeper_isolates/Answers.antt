use Rattle.subnet_model.proofs.IsolationLemmas.{keepers_isolate}
use Rattle.subnet_model.proofs.laws.every_keeper_isolates.Goals as goal

pub returns : goal.returns
returns g c = keepers_isolate
