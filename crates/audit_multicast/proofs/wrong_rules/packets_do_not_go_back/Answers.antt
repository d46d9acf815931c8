use Rattle.audit_multicast.proofs.WrongMaskLemmas.{packets_do_not_go_back}
use Rattle.audit_multicast.proofs.wrong_rules.packets_do_not_go_back.Goals as goal

pub returns : goal.returns
returns c = packets_do_not_go_back
