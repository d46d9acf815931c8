use Rattle.rooted_import.proofs.WrongLemmas.{nodes_are_wanted}
use Rattle.rooted_import.proofs.wrong_rules.nodes_are_wanted.Goals as goal

pub returns : goal.returns
returns c = nodes_are_wanted
