use Rattle.audit_routes.proofs.WrongLemmas.{loops_have_a_line}
use Rattle.audit_routes.proofs.wrong_rules.loops_have_a_line.Goals as goal

pub returns : goal.returns
returns c = loops_have_a_line
