use Rattle.std.proofs.Common.{◌+◌, arith}
use Rattle.text_words.proofs.RowLemmas.{text_of_one_more}
use Rattle.fabric_graph.specs.Graph.{edge_at}
use Rattle.fabric_graph.specs.Rows.{picture_of}
use Rattle.fabric_graph.proofs.drawing.push_cables.Goals as goal

pub loop-place-preserved : goal.loop-place-preserved
loop-place-preserved c =
    let place = c.loop-place.place in
    let picture = (picture_of c.args.edges.topology.now c.args.edges.ranks.now c.args.edges.fabric.now c.args.edges.looks.now) in
    text_of_one_more 0 (edge_at c.args.edges.topology.now.nodes c.args.edges.attachments.now c.args.thick.now picture) c.args.text.now.items
    c.loop-place.text.items c.push_edge_at.new.text.items place (place + 1) place (omega arith) (omega arith) c.loop-place.invariant
    c.in_ok-push_edge_at.ensures
