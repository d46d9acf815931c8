use Rattle.audit_routes.proofs.WrongLineLemmas.{lost_pairs_have_a_line}
use Rattle.audit_routes.proofs.wrong_rules.lost_pairs_have_a_line.Goals as goal

pub returns : goal.returns
returns c = lost_pairs_have_a_line
