use Rattle.audit_multicast.proofs.WrongMaskLemmas.{copies_are_followed}
use Rattle.audit_multicast.proofs.wrong_rules.copies_are_followed.Goals as goal

pub returns : goal.returns
returns c = copies_are_followed
