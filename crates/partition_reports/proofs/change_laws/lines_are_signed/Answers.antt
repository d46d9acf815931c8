use Rattle.partition_reports.proofs.ShownLemmas.{lines_are_signed}
use Rattle.partition_reports.proofs.change_laws.lines_are_signed.Goals as goal

pub returns : goal.returns
returns c = lines_are_signed
