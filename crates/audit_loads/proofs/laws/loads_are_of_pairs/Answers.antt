use Rattle.audit_loads.proofs.LineLemmas.{loads_are_of_pairs}
use Rattle.audit_loads.proofs.laws.loads_are_of_pairs.Goals as goal

pub returns : goal.returns
returns c = loads_are_of_pairs
