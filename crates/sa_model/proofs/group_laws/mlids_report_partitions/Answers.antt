use Rattle.sa_model.proofs.ChangeLemmas.{mlids_report_partitions}
use Rattle.sa_model.proofs.group_laws.mlids_report_partitions.Goals as goal

pub returns : goal.returns
returns c = mlids_report_partitions
