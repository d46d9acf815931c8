use Rattle.audit_multicast.proofs.WrongMaskLemmas.{multicast_is_a_reason}
use Rattle.audit_multicast.proofs.wrong_rules.multicast_is_a_reason.Goals as goal

pub returns : goal.returns
returns c = multicast_is_a_reason
