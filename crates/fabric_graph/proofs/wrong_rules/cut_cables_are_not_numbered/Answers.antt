use Rattle.fabric_graph.proofs.WrongRowLemmas.{cut_cables_are_not_numbered}
use Rattle.fabric_graph.proofs.wrong_rules.cut_cables_are_not_numbered.Goals as goal

pub returns : goal.returns
returns c = cut_cables_are_not_numbered
