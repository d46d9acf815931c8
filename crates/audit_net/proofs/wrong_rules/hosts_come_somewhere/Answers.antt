use Rattle.audit_net.proofs.WrongLemmas.{hosts_come_somewhere}
use Rattle.audit_net.proofs.wrong_rules.hosts_come_somewhere.Goals as goal

pub returns : goal.returns
returns c = hosts_come_somewhere
