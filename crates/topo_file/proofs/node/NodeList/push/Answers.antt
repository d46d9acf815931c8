use Rattle.std.proofs.Common.{◌≡◌, None, ◌∙◌, sym}
use Rattle.topo_file.specs.Node.{place_of}
use Rattle.topo_file.specs.declared.node.Node.{Node}
use Rattle.topo_file.proofs.KnownGuidLemmas.{knows_more}
use Rattle.topo_file.proofs.NodeLemmas.{keys_and_names_grow}
use Rattle.topo_file.proofs.node.NodeList.push.Goals as goal

pub invariant_of-self-2 : goal.invariant_of-self-2
invariant_of-self-2 c =
    let inside = c.self.inside in
    let node = c.args.node.now in
    let added : Node = record { name = c.in_ok-name.name; node_type = node.node_type; guid = node.guid; ports = node.ports } in
    let new : place_of c.in_ok-key.key.items inside.nodes.items ≡ None = rw (c.in_ok-key.ensures.items, c.self.view_is) c.requires.new in
    rw (c.in_ok-insert.ensures.keys, c.in_ok-push.ensures.items, c.reserve.ensures.items, c.reserve-2.ensures.keys) (
      keys_and_names_grow (λ key. key.items) c.in_ok-key.key added inside.names.keys inside.nodes.items c.self.invariant.0
          (c.in_ok-key.ensures.items ∙ sym c.in_ok-name.ensures) new,
      λ guid. knows_more inside.guids.keys c.know_guids.new.guids.keys inside.nodes.items added c.self.invariant.1 c.in_ok-know_guids.ensures.ok guid,
    )
