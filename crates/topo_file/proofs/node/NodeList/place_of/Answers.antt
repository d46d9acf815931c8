use Rattle.std.proofs.Common.{ap, ◌∙◌}
use Rattle.topo_file.specs.Node.{place_of}
use Rattle.topo_file.proofs.NodeLemmas.{place_of-keys}
use Rattle.topo_file.proofs.node.NodeList.place_of.Goals as goal

pub returns : goal.returns
returns c =
    c.get_index_of.ensures.index
    ∙ place_of-keys (λ key. key.items) c.args.name.now c.self.inside.names.keys c.self.inside.nodes.items c.self.invariant.0
    ∙ ap (place_of c.args.name.now) c.self.view_is
