use Rattle.audit_routes.proofs.WrongLineLemmas.{reasons_have_a_line}
use Rattle.audit_routes.proofs.wrong_rules.reasons_have_a_line.Goals as goal

pub returns : goal.returns
returns c = reasons_have_a_line
