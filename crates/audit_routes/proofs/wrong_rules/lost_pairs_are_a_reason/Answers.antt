use Rattle.audit_routes.proofs.WrongLemmas.{lost_pairs_are_a_reason}
use Rattle.audit_routes.proofs.wrong_rules.lost_pairs_are_a_reason.Goals as goal

pub returns : goal.returns
returns c = lost_pairs_are_a_reason
