use Rattle.partition_reports.proofs.PairLawLemmas.{talking_is_matching}
use Rattle.partition_reports.proofs.pair_laws.talking_is_matching.Goals as goal

pub returns : goal.returns
returns c = talking_is_matching
