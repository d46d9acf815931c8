use Rattle.audit_routes.proofs.WrongLemmas.{loops_of_aggregation_decide_nothing}
use Rattle.audit_routes.proofs.wrong_rules.loops_of_aggregation_decide_nothing.Goals as goal

pub returns : goal.returns
returns c = loops_of_aggregation_decide_nothing
