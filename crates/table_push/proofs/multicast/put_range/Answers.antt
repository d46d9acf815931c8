use Rattle.std.proofs.Common.{ap, length, refl, subst, arith}
use Rattle.sweep.specs.Graph.{GraphState}
use Rattle.table_push.proofs.TreeBitLemmas.{wanted_is}
use Rattle.updn_routes.specs.Routes.{AreRoutes}
use Rattle.table_push.proofs.multicast.put_range.Goals as goal

pub returns : goal.returns
returns c place less =
    let few = c.known_graph.ensures.few_switches in
    let graph_long = ap (λ (graph : GraphState). length graph.switches) c.graph.ensures in
    wanted_is c.args.routes.now c.args.tree.now place c.args.partition c.args.receivers.now c.put_attachments.new.ports c.put_masks.new.masks _
    c.put_attachments.new.switches c.requires.partition c.known_of_graph.ensures (subst AreRoutes c.between.ensures c.known_routes.ensures)
    (omega (arith, less, graph_long, few)) c.requires.tree c.put_attachments.ensures c.put_masks.ensures.long c.put_masks.ensures.spread refl

pub put_masks-requires : goal.put_masks-requires
put_masks-requires c place low = (c.requires.tree place low).is_low
