use Rattle.fabric_graph.proofs.DrawnLemmas.{each_node_is_drawn_once}
use Rattle.fabric_graph.proofs.laws.each_node_is_drawn_once.Goals as goal

pub returns : goal.returns
returns c = each_node_is_drawn_once
