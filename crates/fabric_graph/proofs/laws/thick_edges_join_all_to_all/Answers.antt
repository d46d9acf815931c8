use Rattle.fabric_graph.proofs.ThickLemmas.{thick_edges_join_all_to_all}
use Rattle.fabric_graph.proofs.laws.thick_edges_join_all_to_all.Goals as goal

pub returns : goal.returns
returns c = thick_edges_join_all_to_all
