use Rattle.fabric_graph.proofs.ThickLemmas.{thick_edges_show_numbers}
use Rattle.fabric_graph.proofs.laws.thick_edges_show_numbers.Goals as goal

pub returns : goal.returns
returns c = thick_edges_show_numbers
