use Rattle.audit_routes.proofs.WrongLemmas.{other_tables_decide}
use Rattle.audit_routes.proofs.wrong_rules.other_tables_decide.Goals as goal

pub returns : goal.returns
returns c = other_tables_decide
