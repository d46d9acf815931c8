use Rattle.audit_routes.proofs.WrongLemmas.{aggregation_decides_nothing}
use Rattle.audit_routes.proofs.wrong_rules.aggregation_decides_nothing.Goals as goal

pub returns : goal.returns
returns c = aggregation_decides_nothing
