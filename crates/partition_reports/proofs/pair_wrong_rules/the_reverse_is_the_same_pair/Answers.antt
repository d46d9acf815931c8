use Rattle.partition_reports.proofs.PairWrongLemmas.{the_reverse_is_the_same_pair}
use Rattle.partition_reports.proofs.pair_wrong_rules.the_reverse_is_the_same_pair.Goals as goal

pub returns : goal.returns
returns c = the_reverse_is_the_same_pair
