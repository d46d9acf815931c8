use Rattle.partition_reports.proofs.ShownLemmas.{same_is_what_is_compared}
use Rattle.partition_reports.proofs.change_laws.same_is_what_is_compared.Goals as goal

pub returns : goal.returns
returns c = same_is_what_is_compared
