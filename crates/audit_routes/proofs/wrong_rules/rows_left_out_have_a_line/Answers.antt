use Rattle.audit_routes.proofs.WrongLemmas.{rows_left_out_have_a_line}
use Rattle.audit_routes.proofs.wrong_rules.rows_left_out_have_a_line.Goals as goal

pub returns : goal.returns
returns c = rows_left_out_have_a_line
