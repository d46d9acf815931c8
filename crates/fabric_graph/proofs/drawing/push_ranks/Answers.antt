use Rattle.std.proofs.Common.{◌+◌, arith}
use Rattle.text_words.proofs.RowLemmas.{text_of_one_more}
use Rattle.fabric_graph.specs.Graph.{rank_text}
use Rattle.fabric_graph.proofs.drawing.push_ranks.Goals as goal

pub loop-rank-preserved : goal.loop-rank-preserved
loop-rank-preserved c =
    let rank = c.loop-rank.rank in
    text_of_one_more 0 (rank_text c.args.nodes.now c.args.ranks.now c.args.thick.now) c.args.text.now.items c.loop-rank.text.items
    c.push_rank_line.new.text.items rank (rank + 1) rank (omega arith) (omega arith) c.loop-rank.invariant
    (rw (← c.is_boxed.ensures) c.in_ok-push_rank_line.ensures)
