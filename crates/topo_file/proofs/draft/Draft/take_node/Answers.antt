use Rattle.std.proofs.Common.{ℕ, ◌≡◌, false, ap, sym, List, Ok, ◌∙◌, [], ◌∷◌, ◌++◌}
use Rattle.fabric_parts.specs.declared.node_type.NodeType.{NodeType}
use Rattle.topo_file.specs.NewNode.{seen}
use Rattle.topo_file.specs.Node.{HasGuids, is_one_too_many}
use Rattle.topo_file.specs.Sound.{IsSoundSoFar}
use Rattle.topo_file.specs.Topology.{DraftState, node_of}
use Rattle.topo_file.specs.declared.node.Node.{Node}
use Rattle.topo_file.proofs.AcceptedLemmas.{new_node_is}
use Rattle.topo_file.proofs.LimitLemmas.{one_adapter_more, one_switch_more}
use Rattle.topo_file.proofs.SoundLemmas.{sound_still}
use Rattle.topo_file.proofs.draft.Draft.take_node.Goals as goal

-- a node that was judged behind the lines so far may stand there
grown : (so_far old : DraftState) (node_type : NodeType) (words : List (List ℕ)) (node : Node) → so_far ≡ old → IsSoundSoFar so_far → HasGuids node
    → is_one_too_many old.limits old.nodes node.node_type node.ports ≡ false → node_of old.limits node_type old.nodes words ≡ Ok node
    → IsSoundSoFar (record so_far { nodes = so_far.nodes ++ node ∷ [] })
grown so_far old node_type words node same sound guids room made =
    let own_room : is_one_too_many so_far.limits so_far.nodes node.node_type node.ports ≡ false =
    ap (λ draft. is_one_too_many draft.limits draft.nodes node.node_type node.ports) same ∙ room in
    let own_made : node_of so_far.limits node_type so_far.nodes words ≡ Ok node =
    ap (λ draft. node_of draft.limits node_type draft.nodes words) same ∙ made in
    sound_still so_far node sound guids own_room (new_node_is so_far.limits node_type so_far.nodes words node own_made)

pub invariant_of-self-in-Switch : goal.invariant_of-self-in-Switch
invariant_of-self-in-Switch c =
    let inside = c.self.inside in
    let more = one_switch_more inside.nodes (seen c.in_ok-node.node) c.in-Switch.is in
    rw c.in_ok-push.ensures.ok (
      grown (record { limits = inside.limits; nodes = inside.nodes; cables = inside.cables; roots = inside.roots.items; manager = inside.manager })
          c.args.self.now c.args.node_type c.args.words (seen c.in_ok-node.node) c.self.view_is c.self.invariant.0 c.in_ok-node.ensures.guids
          c.in_ok-node.ensures.room (sym c.in_ok-node.ensures.value),
      rw c.self.invariant.1 more.0,
      rw c.self.invariant.2 more.1,
    )

pub invariant_of-self-in-ChannelAdapter : goal.invariant_of-self-in-ChannelAdapter
invariant_of-self-in-ChannelAdapter c =
    let inside = c.self.inside in
    let more = one_adapter_more inside.nodes (seen c.in_ok-node.node) c.in-ChannelAdapter.is in
    rw c.in_ok-push.ensures.ok (
      grown (record { limits = inside.limits; nodes = inside.nodes; cables = inside.cables; roots = inside.roots.items; manager = inside.manager })
          c.args.self.now c.args.node_type c.args.words (seen c.in_ok-node.node) c.self.view_is c.self.invariant.0 c.in_ok-node.ensures.guids
          c.in_ok-node.ensures.room (sym c.in_ok-node.ensures.value),
      rw c.self.invariant.1 more.0,
      rw (c.self.invariant.2, c.from.ensures) more.1,
    )
