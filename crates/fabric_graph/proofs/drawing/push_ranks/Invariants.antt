use Rattle.std.proofs.Common.{◌≡◌, ◌++◌}
use Rattle.std.specs.List.{flat_map, range_with_len}
use Rattle.fabric_graph.specs.Graph.{rank_text}
use Rattle.fabric_graph.proofs.drawing.push_ranks.Given as goal

abbrev pub invariant-loop-rank : goal.invariant-loop-rank
invariant-loop-rank l =
    l.text.items ≡ l.fn.text.items ++ flat_map (rank_text l.fn.nodes l.fn.ranks l.fn.thick) (range_with_len 0 l.rank)
