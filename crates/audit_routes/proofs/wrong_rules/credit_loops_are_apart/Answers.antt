use Rattle.audit_routes.proofs.WrongLemmas.{credit_loops_are_apart}
use Rattle.audit_routes.proofs.wrong_rules.credit_loops_are_apart.Goals as goal

pub returns : goal.returns
returns c = credit_loops_are_apart
