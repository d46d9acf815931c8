use Rattle.audit_routes.proofs.WrongLemmas.{loops_of_hosts_decide}
use Rattle.audit_routes.proofs.wrong_rules.loops_of_hosts_decide.Goals as goal

pub returns : goal.returns
returns c = loops_of_hosts_decide
