use Rattle.audit_multicast.proofs.WrongMaskLemmas.{packets_enter_at_end_ports}
use Rattle.audit_multicast.proofs.wrong_rules.packets_enter_at_end_ports.Goals as goal

pub returns : goal.returns
returns c = packets_enter_at_end_ports
