use Rattle.partition_reports.proofs.SameLemmas.{nothing_is_reported_of_the_same}
use Rattle.partition_reports.proofs.change_laws.nothing_is_reported_of_the_same.Goals as goal

pub returns : goal.returns
returns c = nothing_is_reported_of_the_same
