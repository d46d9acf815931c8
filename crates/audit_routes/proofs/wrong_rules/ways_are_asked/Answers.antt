use Rattle.audit_routes.proofs.WrongLemmas.{ways_are_asked}
use Rattle.audit_routes.proofs.wrong_rules.ways_are_asked.Goals as goal

pub returns : goal.returns
returns c = ways_are_asked
