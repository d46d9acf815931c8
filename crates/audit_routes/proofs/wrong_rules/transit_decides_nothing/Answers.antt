use Rattle.audit_routes.proofs.WrongLemmas.{transit_decides_nothing}
use Rattle.audit_routes.proofs.wrong_rules.transit_decides_nothing.Goals as goal

pub returns : goal.returns
returns c = transit_decides_nothing
