use Rattle.audit_multicast.proofs.WrongMaskLemmas.{each_member_sends}
use Rattle.audit_multicast.proofs.wrong_rules.each_member_sends.Goals as goal

pub returns : goal.returns
returns c = each_member_sends
