use Rattle.audit_net.proofs.HostLemmas.{hosts_are_followed}
use Rattle.audit_net.proofs.laws.hosts_are_followed.Goals as goal

pub returns : goal.returns
returns c = hosts_are_followed
