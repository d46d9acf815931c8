use Rattle.audit_routes.proofs.WrongLemmas.{others_holes_have_a_line}
use Rattle.audit_routes.proofs.wrong_rules.others_holes_have_a_line.Goals as goal

pub returns : goal.returns
returns c = others_holes_have_a_line
