use Rattle.std.proofs.Common.{◌≡◌, ◌++◌}
use Rattle.std.specs.List.{flat_map, range_with_len}
use Rattle.fabric_graph.specs.Graph.{edge_at}
use Rattle.fabric_graph.specs.Rows.{picture_of}
use Rattle.fabric_graph.proofs.drawing.push_cables.Given as goal

abbrev pub invariant-loop-place : goal.invariant-loop-place
invariant-loop-place l =
    let picture = (picture_of l.fn.edges.topology.now l.fn.edges.ranks.now l.fn.edges.fabric.now l.fn.edges.looks.now) in
    l.text.items ≡ l.fn.text.items ++ flat_map (edge_at l.fn.edges.topology.now.nodes l.fn.edges.attachments.now l.fn.thick picture) (range_with_len 0 l.place)
