use Rattle.std.proofs.Common.{◌≡◌, None, nat_eq, refl}
use Rattle.netdiscover_file.specs.Node.{place_of}
use Rattle.step_results.proofs.PlaceLemmas.{keys_grow}
use Rattle.netdiscover_file.proofs.node.NodeList.push.Goals as goal

pub invariant_of-self-2 : goal.invariant_of-self-2
invariant_of-self-2 c =
    let node = c.args.node.now in
    let new : place_of node.id.guid c.self.inside.nodes.items ≡ None = rw c.self.view_is c.requires.new in
    rw (c.in_ok-insert.ensures.keys, c.in_ok-push.ensures.items, c.reserve.ensures.items)
    (keys_grow nat_eq (λ node. node.id.guid) node.id.guid
    (record { id = node.id; ports = node.ports; name = c.in_ok-name.name; lid = node.lid; port_guid = node.port_guid; line = node.line })
    c.self.inside.guids.keys c.self.inside.nodes.items c.self.invariant refl new)
