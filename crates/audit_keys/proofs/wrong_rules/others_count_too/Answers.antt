use Rattle.audit_keys.proofs.WrongRankLemmas.{others_count_too}
use Rattle.audit_keys.proofs.wrong_rules.others_count_too.Goals as goal

pub returns : goal.returns
returns c = others_count_too
