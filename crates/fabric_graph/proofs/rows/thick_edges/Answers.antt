use Rattle.fabric_graph.specs.Rows.{picture_of, thickness}
use Rattle.fabric_graph.proofs.AttachmentLemmas.{one_more}
use Rattle.fabric_graph.proofs.rows.thick_edges.Goals as goal

pub loop-rank-preserved : goal.loop-rank-preserved
loop-rank-preserved c =
    let picture = (picture_of c.args.edges.topology.now c.args.edges.ranks.now c.args.edges.fabric.now c.args.edges.looks.now) in
    one_more (thickness picture) c.loop-rank.thick.items c.push.new.self.items c.loop-rank.rank c.in_ok-thickness.field-0
    c.loop-rank.invariant c.in_ok-thickness.ensures c.in_ok-push.ensures.items
