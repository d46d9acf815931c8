use Rattle.fabric_graph.proofs.WrongRowLemmas.{cut_cables_stay_apart}
use Rattle.fabric_graph.proofs.wrong_rules.cut_cables_stay_apart.Goals as goal

pub returns : goal.returns
returns c = cut_cables_stay_apart
