use Rattle.partition_reports.proofs.PairWrongLemmas.{unchanged_ports_gain_too}
use Rattle.partition_reports.proofs.pair_wrong_rules.unchanged_ports_gain_too.Goals as goal

pub returns : goal.returns
returns c = unchanged_ports_gain_too
