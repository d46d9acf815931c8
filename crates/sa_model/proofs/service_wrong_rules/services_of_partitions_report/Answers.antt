use Rattle.sa_model.proofs.ServiceWrongLemmas.{services_of_partitions_report}
use Rattle.sa_model.proofs.service_wrong_rules.services_of_partitions_report.Goals as goal

pub returns : goal.returns
returns c = services_of_partitions_report
