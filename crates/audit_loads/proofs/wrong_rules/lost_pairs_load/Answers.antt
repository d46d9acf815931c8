use Rattle.audit_loads.proofs.WrongLemmas.{lost_pairs_load}
use Rattle.audit_loads.proofs.wrong_rules.lost_pairs_load.Goals as goal

pub returns : goal.returns
returns c = lost_pairs_load
