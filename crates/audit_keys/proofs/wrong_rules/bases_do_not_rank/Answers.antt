use Rattle.audit_keys.proofs.WrongRankLemmas.{bases_do_not_rank}
use Rattle.audit_keys.proofs.wrong_rules.bases_do_not_rank.Goals as goal

pub returns : goal.returns
returns c = bases_do_not_rank
