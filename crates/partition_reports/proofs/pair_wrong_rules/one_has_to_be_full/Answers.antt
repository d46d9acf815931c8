use Rattle.partition_reports.proofs.PairWrongLemmas.{one_has_to_be_full}
use Rattle.partition_reports.proofs.pair_wrong_rules.one_has_to_be_full.Goals as goal

pub returns : goal.returns
returns c = one_has_to_be_full
