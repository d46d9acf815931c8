use Rattle.audit_routes.proofs.WrongLemmas.{nobodys_rows_have_a_line}
use Rattle.audit_routes.proofs.wrong_rules.nobodys_rows_have_a_line.Goals as goal

pub returns : goal.returns
returns c = nobodys_rows_have_a_line
