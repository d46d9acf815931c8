use Rattle.std.proofs.Common.{◌≡◌, false, None, ap, option_to_list, ◌∙◌}
use Rattle.netdiscover_file.specs.Node.{node_seen, place_of}
use Rattle.netdiscover_file.specs.Port.{is_reported_already}
use Rattle.netdiscover_file.proofs.SoundLemmas.{sound_noted, sound_with_node}
use Rattle.netdiscover_file.proofs.draft.Draft.take_new_node.Goals as goal

pub invariant_of-self-in_err-push-2 : goal.invariant_of-self-in_err-push-2
invariant_of-self-in_err-push-2 c =
    let inside = c.self.inside in
    rw (c.in_err-push-2.ensures.err, c.in_ok-push.ensures.ok)
    (sound_noted inside.nodes inside.ports inside.port_guids (option_to_list c.in_ok-node.node.port_guid) c.self.invariant)

pub invariant_of-self-2 : goal.invariant_of-self-2
invariant_of-self-2 c =
    let inside = c.self.inside in
    let node = c.in_ok-node.node in
    let new : place_of node.id.guid inside.nodes ≡ None = ap (λ draft. place_of node.id.guid draft.nodes) c.self.view_is ∙ c.in_ok-node.ensures.new in
    let own : is_reported_already node.port_guid inside.port_guids ≡ false = ap (λ draft. is_reported_already node.port_guid draft.port_guids) c.self.view_is ∙ c.in_ok-node.ensures.own in
    rw (c.in_ok-push-2.ensures.ok, c.in_ok-push.ensures.ok)
    (sound_with_node inside.nodes inside.ports inside.port_guids (node_seen node) c.self.invariant new own)
