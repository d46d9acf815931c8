use Rattle.fabric_graph.proofs.WrongRowLemmas.{two_switches_are_a_row}
use Rattle.fabric_graph.proofs.wrong_rules.two_switches_are_a_row.Goals as goal

pub returns : goal.returns
returns c = two_switches_are_a_row
