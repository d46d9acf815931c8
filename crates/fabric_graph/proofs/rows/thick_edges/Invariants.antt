use Rattle.std.proofs.Common.{◌≡◌, map}
use Rattle.std.specs.List.{range_with_len}
use Rattle.fabric_graph.specs.Rows.{picture_of, thickness}
use Rattle.fabric_graph.proofs.rows.thick_edges.Given as goal

abbrev pub invariant-loop-rank : goal.invariant-loop-rank
invariant-loop-rank l =
    let picture = (picture_of l.fn.edges.topology.now l.fn.edges.ranks.now l.fn.edges.fabric.now l.fn.edges.looks.now) in
    l.thick.items ≡ map (thickness picture) (range_with_len 0 l.rank)
