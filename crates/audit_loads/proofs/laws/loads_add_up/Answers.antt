use Rattle.audit_loads.proofs.LineLemmas.{loads_add_up}
use Rattle.audit_loads.proofs.laws.loads_add_up.Goals as goal

pub returns : goal.returns
returns c = loads_add_up
