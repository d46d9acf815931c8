use Rattle.sa_model.proofs.QueryWrongLemmas.{services_of_ports_near_report}
use Rattle.sa_model.proofs.query_wrong_rules.services_of_ports_near_report.Goals as goal

pub returns : goal.returns
returns c = services_of_ports_near_report
