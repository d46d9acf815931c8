use Rattle.std.proofs.Common.{refl, ◌∙◌}
use Rattle.std.proofs.lemmas.List.{map_push}
use Rattle.topology_import.specs.Names.{planned}
use Rattle.topology_import.proofs.NameLemmas.{names_grow}
use Rattle.topology_import.proofs.planned.PlannedList.push.Goals as goal

pub invariant_of-self-2 : goal.invariant_of-self-2
invariant_of-self-2 c =
    let node = planned c.args.name.items c.args.node in
    let nodes = c.self.inside.nodes.items in
    let last = rw (c.new.ensures, c.reserve.ensures.items) at c.in_ok-push-2.ensures.items in (
      rw (last, map_push (λ n. n.guid) nodes node, c.in_ok-push.ensures.ok, c.self.invariant.0) refl,
      λ name. rw (c.in_ok-insert.ensures.keys, c.reserve-2.ensures.keys, last)
          (names_grow (λ key. key.items) c.in_ok-key.key node c.self.inside.names.keys nodes c.self.invariant.1
          (c.in_ok-key.ensures.items ∙ c.as_slice.ensures.value) name),
    )
