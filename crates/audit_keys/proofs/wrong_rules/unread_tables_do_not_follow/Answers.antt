use Rattle.audit_keys.proofs.WrongLemmas.{unread_tables_do_not_follow}
use Rattle.audit_keys.proofs.wrong_rules.unread_tables_do_not_follow.Goals as goal

pub returns : goal.returns
returns c = unread_tables_do_not_follow
