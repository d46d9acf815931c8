use Rattle.sa_replies.proofs.RunWrongLemmas.{tables_are_in_common}
use Rattle.sa_replies.proofs.run_wrong_rules.tables_are_in_common.Goals as goal

pub returns : goal.returns
returns c = tables_are_in_common
