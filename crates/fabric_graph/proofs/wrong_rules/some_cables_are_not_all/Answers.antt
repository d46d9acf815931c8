use Rattle.fabric_graph.proofs.WrongRowLemmas.{some_cables_are_not_all}
use Rattle.fabric_graph.proofs.wrong_rules.some_cables_are_not_all.Goals as goal

pub returns : goal.returns
returns c = some_cables_are_not_all
