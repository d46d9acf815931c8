use Rattle.audit_routes.proofs.WrongLemmas.{holes_have_a_line}
use Rattle.audit_routes.proofs.wrong_rules.holes_have_a_line.Goals as goal

pub returns : goal.returns
returns c = holes_have_a_line
