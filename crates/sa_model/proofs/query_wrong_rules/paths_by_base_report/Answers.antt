use Rattle.sa_model.proofs.QueryWrongLemmas.{paths_by_base_report}
use Rattle.sa_model.proofs.query_wrong_rules.paths_by_base_report.Goals as goal

pub returns : goal.returns
returns c = paths_by_base_report
