use Rattle.std.proofs.Common.{◌≡◌, ◌∙◌, true, sym}
use Rattle.fabric_parts.specs.Cable.{is_cabled}
use Rattle.topo_file.specs.Connectivity.{AllJoined}
use Rattle.topo_file.proofs.WithinLemmas.{large_whole}
use Rattle.topo_file.proofs.draft.Draft.finish.Goals as goal

pub invariant_of-result : goal.invariant_of-result
invariant_of-result c =
    let inside = c.self.inside in
    let cabled : is_cabled inside.cables c.in-Some.manager.port ≡ true = sym c.is_cabled.ensures ∙ c.if-not-is_cabled.false in
    let joined : AllJoined inside.nodes inside.cables =
    rw (sym c.as_slice.ensures, sym c.as_slice-2.ensures) (c.in_ok-is_connected.ensures.walks.0 c.if-not-branch.false) in
    large_whole (record { limits = inside.limits; nodes = inside.nodes; cables = inside.cables; roots = inside.roots.items; manager = inside.manager })
    c.in-Some.manager c.self.invariant.0 c.in-Some.is cabled joined
