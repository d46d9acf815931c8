use Rattle.partition_reports.proofs.PairWrongLemmas.{what_was_before_counts}
use Rattle.partition_reports.proofs.pair_wrong_rules.what_was_before_counts.Goals as goal

pub returns : goal.returns
returns c = what_was_before_counts
