use Rattle.fabric_graph.proofs.WrongRowLemmas.{counted_cables_are_no_edges}
use Rattle.fabric_graph.proofs.wrong_rules.counted_cables_are_no_edges.Goals as goal

pub returns : goal.returns
returns c = counted_cables_are_no_edges
