use Rattle.sa_replies.proofs.WrongLemmas.{one_table_reports}
use Rattle.sa_replies.proofs.wrong_rules.one_table_reports.Goals as goal

pub returns : goal.returns
returns c = one_table_reports
