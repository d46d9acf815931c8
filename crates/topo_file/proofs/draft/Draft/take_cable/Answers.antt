use Rattle.std.proofs.Common.{◌≡◌, true, ap, sym, Ok, ◌∙◌}
use Rattle.topo_file.specs.Sound.{ends_at_ports}
use Rattle.topo_file.specs.Topology.{cable_of}
use Rattle.topo_file.proofs.AcceptedLemmas.{new_cable_is}
use Rattle.topo_file.proofs.SoundLemmas.{sound_with}
use Rattle.topo_file.proofs.draft.Draft.take_cable.Goals as goal

pub invariant_of-self-2 : goal.invariant_of-self-2
invariant_of-self-2 c =
    let inside = c.self.inside in
    let cable = c.in_ok-cable.cable in
    let words = c.args.words in
    let ends : ends_at_ports inside.nodes cable ≡ true =
    ap (λ draft. ends_at_ports draft.nodes cable) c.self.view_is ∙ c.in_ok-cable.ensures.ends in
    let made : cable_of inside.nodes inside.cables words ≡ Ok cable =
    ap (λ draft. cable_of draft.nodes draft.cables words) c.self.view_is ∙ sym c.in_ok-cable.ensures.value in
    rw c.in_ok-push.ensures.ok (
      (sound_with (record { limits = inside.limits; nodes = inside.nodes; cables = inside.cables; roots = inside.roots.items; manager = inside.manager }) cable c.self.invariant.0 ends
          (new_cable_is inside.nodes inside.cables words cable made)),
      c.self.invariant.1,
      c.self.invariant.2,
    )
