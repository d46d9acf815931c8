use Rattle.sa_model.proofs.KeyOrderLemmas.{stand_by_base}
use Rattle.sa_model.proofs.service_laws.keys_stand_by_base.Goals as goal

pub returns : goal.returns
returns c = stand_by_base
