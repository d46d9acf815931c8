use Rattle.std.proofs.Common.{◌+◌, arith}
use Rattle.text_words.proofs.RowLemmas.{text_of_one_more}
use Rattle.fabric_graph.specs.ThickEdges.{thick_edge}
use Rattle.fabric_graph.proofs.drawing.push_thick_edges.Goals as goal

pub loop-rank-preserved : goal.loop-rank-preserved
loop-rank-preserved c =
    let rank = c.loop-rank.rank in
    text_of_one_more 0 (thick_edge c.args.nodes.now c.args.ranks.now c.args.thick.now) c.args.text.now.items c.loop-rank.text.items
    c.push_thick_edge.new.text.items rank (rank + 1) rank (omega arith) (omega arith) c.loop-rank.invariant c.in_ok-push_thick_edge.ensures
