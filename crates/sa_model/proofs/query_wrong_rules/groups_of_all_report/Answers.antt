use Rattle.sa_model.proofs.QueryWrongLemmas.{groups_of_all_report}
use Rattle.sa_model.proofs.query_wrong_rules.groups_of_all_report.Goals as goal

pub returns : goal.returns
returns c = groups_of_all_report
