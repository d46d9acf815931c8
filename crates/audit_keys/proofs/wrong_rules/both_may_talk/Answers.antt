use Rattle.audit_keys.proofs.WrongLemmas.{both_may_talk}
use Rattle.audit_keys.proofs.wrong_rules.both_may_talk.Goals as goal

pub returns : goal.returns
returns c = both_may_talk
