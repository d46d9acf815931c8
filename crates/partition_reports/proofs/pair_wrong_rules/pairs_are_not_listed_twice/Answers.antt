use Rattle.partition_reports.proofs.PairWrongLemmas.{pairs_are_not_listed_twice}
use Rattle.partition_reports.proofs.pair_wrong_rules.pairs_are_not_listed_twice.Goals as goal

pub returns : goal.returns
returns c = pairs_are_not_listed_twice
