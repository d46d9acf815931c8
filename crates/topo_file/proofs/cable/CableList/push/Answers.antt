use Rattle.std.proofs.Common.{true, cond, ap, ◌∙◌}
use Rattle.std.specs.List.{list_any}
use Rattle.fabric_parts.specs.Cable.{is_same_port}
use Rattle.topo_file.proofs.CableLemmas.{cabled_more}
use Rattle.topo_file.proofs.cable.CableList.push.Goals as goal

pub invariant_of-self-2 : goal.invariant_of-self-2
invariant_of-self-2 c port =
    let cable = c.args.cable in
    let before = ap (λ keys. list_any (is_same_port port) keys) c.reserve-2.ensures.keys ∙ c.self.invariant port in
    let after_first = c.in_ok-insert.ensures.updates.0 port ∙ ap (cond (is_same_port cable.first port) true) before in
    rw (c.in_ok-push.ensures.items, c.reserve.ensures.items)
    (c.in_ok-insert-2.ensures.updates.0 port ∙ ap (cond (is_same_port cable.second port) true) after_first
    ∙ cabled_more c.self.inside.cables.items cable port)
