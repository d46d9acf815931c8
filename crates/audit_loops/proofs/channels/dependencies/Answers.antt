use Rattle.std.proofs.Common.{List, ℕ, ap, flat_map, map, sym, take_all, ◌∙◌, ◌≤◌, length, subst}
use Rattle.topo_file.specs.Connectivity.{switches}
use Rattle.audit_loops.specs.Channels.{channels_of, nexts}
use Rattle.audit_loops.proofs.WaitLemmas.{map_flat}
use Rattle.audit_loops.proofs.channels.dependencies.Goals as goal

pub returns : goal.returns
returns c =
    let net = c.args.net.now in
    let places = switches net.plan.nodes in
    let ended = subst (λ (items : List ℕ). length items ≤ c.loop-place.place-index) c.switches-place-items.ensures c.loop-place-test.false in
    c.loop-place.invariant ∙ ap (flat_map (λ place. map (nexts net c.args.courses.now) (channels_of net place))) (take_all c.loop-place.place-index places ended)
    ∙ sym (map_flat (nexts net c.args.courses.now) (channels_of net) places)
