use Rattle.partition_reports.proofs.NearMemberLemmas.{the_second_file_alone_is_not_enough}
use Rattle.partition_reports.proofs.change_wrong_rules.the_second_file_alone_is_not_enough.Goals as goal

pub returns : goal.returns
returns c = the_second_file_alone_is_not_enough
