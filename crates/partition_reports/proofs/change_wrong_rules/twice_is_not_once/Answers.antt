use Rattle.partition_reports.proofs.ChangeWrongLemmas.{twice_is_not_once}
use Rattle.partition_reports.proofs.change_wrong_rules.twice_is_not_once.Goals as goal

pub returns : goal.returns
returns c = twice_is_not_once
