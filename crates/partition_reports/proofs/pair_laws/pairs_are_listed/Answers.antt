use Rattle.partition_reports.proofs.PairLawLemmas.{pairs_are_listed}
use Rattle.partition_reports.proofs.pair_laws.pairs_are_listed.Goals as goal

pub returns : goal.returns
returns c = pairs_are_listed
