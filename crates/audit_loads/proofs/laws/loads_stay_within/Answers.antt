use Rattle.audit_loads.proofs.LineLemmas.{loads_stay_within}
use Rattle.audit_loads.proofs.laws.loads_stay_within.Goals as goal

pub returns : goal.returns
returns c = loads_stay_within
