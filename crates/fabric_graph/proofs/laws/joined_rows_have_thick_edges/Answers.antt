use Rattle.fabric_graph.proofs.ThickLemmas.{joined_rows_have_thick_edges}
use Rattle.fabric_graph.proofs.laws.joined_rows_have_thick_edges.Goals as goal

pub returns : goal.returns
returns c = joined_rows_have_thick_edges
