use Rattle.partition_reports.proofs.PairWrongLemmas.{no_port_is_its_own_pair}
use Rattle.partition_reports.proofs.pair_wrong_rules.no_port_is_its_own_pair.Goals as goal

pub returns : goal.returns
returns c = no_port_is_its_own_pair
