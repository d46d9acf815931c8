use Rattle.sa_model.proofs.QueryWrongPairLemmas.{common_bases_are_not_shared}
use Rattle.sa_model.proofs.query_wrong_rules.common_bases_are_not_shared.Goals as goal

pub returns : goal.returns
returns c = common_bases_are_not_shared
