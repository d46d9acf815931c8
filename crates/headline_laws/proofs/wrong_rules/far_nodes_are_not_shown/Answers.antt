use Rattle.headline_laws.proofs.WrongLemmas.{far_nodes_are_not_shown}
use Rattle.headline_laws.proofs.wrong_rules.far_nodes_are_not_shown.Goals as goal

pub returns : goal.returns
returns c = far_nodes_are_not_shown
