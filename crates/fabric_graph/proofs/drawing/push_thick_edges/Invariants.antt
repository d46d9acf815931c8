use Rattle.std.proofs.Common.{◌≡◌, ◌++◌}
use Rattle.std.specs.List.{flat_map, range_with_len}
use Rattle.fabric_graph.specs.ThickEdges.{thick_edge}
use Rattle.fabric_graph.proofs.drawing.push_thick_edges.Given as goal

abbrev pub invariant-loop-rank : goal.invariant-loop-rank
invariant-loop-rank l =
    l.text.items ≡ l.fn.text.items ++ flat_map (thick_edge l.fn.nodes l.fn.ranks l.fn.thick) (range_with_len 0 l.rank)
