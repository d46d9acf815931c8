use Rattle.std.proofs.Common.{◌≡◌, true, false, ap, ◌∙◌}
use Rattle.topo_file.specs.Node.{is_switch_at}
use Rattle.topo_file.specs.Topology.{is_root}
use Rattle.topo_file.proofs.SoundLemmas.{sound_rooted}
use Rattle.topo_file.proofs.draft.Draft.take_root.Goals as goal

pub invariant_of-self-2 : goal.invariant_of-self-2
invariant_of-self-2 c =
    let inside = c.self.inside in
    let root = c.in_ok-root.root in
    let switch : is_switch_at inside.nodes root ≡ true =
    ap (λ draft. is_switch_at draft.nodes root) c.self.view_is ∙ c.in_ok-root.ensures.switch in
    let own : is_root inside.roots.items root ≡ false =
    ap (λ draft. is_root draft.roots root) c.self.view_is ∙ c.in_ok-root.ensures.own in
    rw c.in_ok-push.ensures.items (
      (sound_rooted (record { limits = inside.limits; nodes = inside.nodes; cables = inside.cables; roots = inside.roots.items; manager = inside.manager }) root c.self.invariant.0 switch own),
      c.self.invariant.1,
      c.self.invariant.2,
    )
