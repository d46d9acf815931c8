use Rattle.audit_multicast.proofs.WrongMaskLemmas.{cuts_are_followed}
use Rattle.audit_multicast.proofs.wrong_rules.cuts_are_followed.Goals as goal

pub returns : goal.returns
returns c = cuts_are_followed
