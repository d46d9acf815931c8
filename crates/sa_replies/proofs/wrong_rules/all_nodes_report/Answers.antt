use Rattle.sa_replies.proofs.WrongLemmas.{all_nodes_report}
use Rattle.sa_replies.proofs.wrong_rules.all_nodes_report.Goals as goal

pub returns : goal.returns
returns c = all_nodes_report
