use Rattle.std.proofs.Common.{nat_eq, refl}
use Rattle.indexmap.specs.IndexMap.{get}
use Rattle.fabric_wire.proofs.EndPortLemmas.{begins, ends}
use Rattle.fabric_wire.proofs.adapter_ports.places_by_guid.Goals as goal

pub loop-node-init : goal.loop-node-init
loop-node-init c = begins c.args.nodes.now (get nat_eq c.new-places.result) (λ guid. rw c.new-places.ensures.empty refl)

pub returns : goal.returns
returns c = ends c.args.nodes.now (get nat_eq c.loop-node.places) c.loop-node.node c.loop-node-test.false c.loop-node.invariant
