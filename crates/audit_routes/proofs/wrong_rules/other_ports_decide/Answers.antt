use Rattle.audit_routes.proofs.WrongLemmas.{other_ports_decide}
use Rattle.audit_routes.proofs.wrong_rules.other_ports_decide.Goals as goal

pub returns : goal.returns
returns c = other_ports_decide
