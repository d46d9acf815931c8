use Rattle.audit_multicast.proofs.WrongMaskLemmas.{cuts_decide}
use Rattle.audit_multicast.proofs.wrong_rules.cuts_decide.Goals as goal

pub returns : goal.returns
returns c = cuts_decide
