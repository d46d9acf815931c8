use Rattle.audit_routes.proofs.WrongLemmas.{holes_are_counted}
use Rattle.audit_routes.proofs.wrong_rules.holes_are_counted.Goals as goal

pub returns : goal.returns
returns c = holes_are_counted
