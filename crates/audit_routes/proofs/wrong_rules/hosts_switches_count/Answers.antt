use Rattle.audit_routes.proofs.WrongLineLemmas.{hosts_switches_count}
use Rattle.audit_routes.proofs.wrong_rules.hosts_switches_count.Goals as goal

pub returns : goal.returns
returns c = hosts_switches_count
