use Rattle.audit_multicast.proofs.WrongMaskLemmas.{two_ports_loop}
use Rattle.audit_multicast.proofs.wrong_rules.two_ports_loop.Goals as goal

pub returns : goal.returns
returns c = two_ports_loop
