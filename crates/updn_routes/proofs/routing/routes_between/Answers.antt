use Rattle.updn_routes.proofs.GraphLemmas.{all_attached_there, graph_is_fabric, graph_is_small}
use Rattle.updn_routes.proofs.routing.routes_between.Goals as goal

pub routes_over-requires-clause-fabric : goal.routes_over-requires-clause-fabric
routes_over-requires-clause-fabric c =
    rw (c.in_ok-rows.ensures, c.in_ok-guids.ensures) (graph_is_fabric c.args.graph.now c.known_graph.ensures c.args.roots.now c.requires.joined c.requires.named)

pub routes_over-requires-clause-few : goal.routes_over-requires-clause-few
routes_over-requires-clause-few c = rw c.in_ok-rows.ensures (graph_is_small c.args.graph.now c.known_graph.ensures)

pub routes_over-requires-clause-hang : goal.routes_over-requires-clause-hang
routes_over-requires-clause-hang c =
    rw (c.in_ok-homes.ensures, c.in_ok-rows.ensures) (all_attached_there c.args.graph.now c.known_graph.ensures c.args.lids.now)

pub returns-clause-reached : goal.returns-clause-reached
returns-clause-reached c = rw (← c.in_ok-homes.ensures, ← c.in_ok-rows.ensures) c.routes_over.ensures.reached
