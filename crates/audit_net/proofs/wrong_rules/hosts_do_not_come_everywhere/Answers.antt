use Rattle.audit_net.proofs.WrongLemmas.{hosts_do_not_come_everywhere}
use Rattle.audit_net.proofs.wrong_rules.hosts_do_not_come_everywhere.Goals as goal

pub returns : goal.returns
returns c = hosts_do_not_come_everywhere
