use Rattle.sa_replies.proofs.RunWrongLemmas.{nodes_are_no_files}
use Rattle.sa_replies.proofs.run_wrong_rules.nodes_are_no_files.Goals as goal

pub returns : goal.returns
returns c = nodes_are_no_files
