use Rattle.std.proofs.Common.{ap, ◌∙◌}
use Rattle.topo_file.specs.declared.node.Node.{Node as PlannedNode}
use Rattle.fabric_wire.specs.OfTopology.{node_of}
use Rattle.fabric_wire.proofs.PowerUpLemmas.{one_node_more}
use Rattle.fabric_wire.proofs.power_up.nodes_of.Goals as goal

pub loop-place-preserved : goal.loop-place-preserved
loop-place-preserved c =
    let cables = c.args.topology.now.cables in
    let planned = c.nodes-planned.result.now in
    let place = c.loop-place.place in
    let one = c.index-planned-place.result in
    let made = c.in_ok-node.ensures ∙ ap (λ (node : PlannedNode). node_of cables place node) c.index-planned-place.is in
    one_node_more cables planned place one c.loop-place.nodes.items c.push.new.self.items c.in_ok-node.node
    c.loop-place-test.true c.loop-place.invariant made c.in_ok-push.ensures.items
