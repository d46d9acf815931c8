use Rattle.fabric_graph.proofs.WrongRowLemmas.{lower_rows_are_joined_too}
use Rattle.fabric_graph.proofs.wrong_rules.lower_rows_are_joined_too.Goals as goal

pub returns : goal.returns
returns c = lower_rows_are_joined_too
