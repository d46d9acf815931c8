use Rattle.audit_routes.proofs.PrintedLemmas.{other_cables_have_a_line}
use Rattle.audit_routes.proofs.wrong_rules.other_cables_have_a_line.Goals as goal

pub returns : goal.returns
returns c = other_cables_have_a_line
