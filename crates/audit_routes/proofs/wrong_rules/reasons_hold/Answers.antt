use Rattle.audit_routes.proofs.WrongLemmas.{reasons_hold}
use Rattle.audit_routes.proofs.wrong_rules.reasons_hold.Goals as goal

pub returns : goal.returns
returns c = reasons_hold
