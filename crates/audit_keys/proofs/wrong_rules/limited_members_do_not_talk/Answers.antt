use Rattle.audit_keys.proofs.WrongLemmas.{limited_members_do_not_talk}
use Rattle.audit_keys.proofs.wrong_rules.limited_members_do_not_talk.Goals as goal

pub returns : goal.returns
returns c = limited_members_do_not_talk
