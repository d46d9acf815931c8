use Rattle.audit_routes.proofs.WrongLineLemmas.{unknown_is_not_lost}
use Rattle.audit_routes.proofs.wrong_rules.unknown_is_not_lost.Goals as goal

pub returns : goal.returns
returns c = unknown_is_not_lost
