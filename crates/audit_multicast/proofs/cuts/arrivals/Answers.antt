use Rattle.std.proofs.Common.{ℕ, List, ◌∙◌, ◌==◌, ◌||◌, ap}
use Rattle.std.specs.List.{list_any}
use Rattle.audit_multicast.specs.Spreading.{nodes_behind}
use Rattle.audit_multicast.proofs.CutLemmas.{behind_are, places_inside}
use Rattle.audit_multicast.proofs.cuts.arrivals.Goals as goal

pub met_at-requires-clause-places : goal.met_at-requires-clause-places
met_at-requires-clause-places c =
    let net = c.args.net.now in
    let all = c.args.all.now in
    let place = c.args.place in
    let are = c.deref-2.ensures.value ∙ c.in_ok-places.ensures ∙ ap (λ marks. nodes_behind net marks all) (c.deref.ensures.value ∙ c.in_ok-marks.ensures) ∙ behind_are net all place in
    rw (are, c.nodes.ensures, c.plan.ensures) (places_inside net all place c.requires.outs)

pub returns : goal.returns
returns c there =
    let net = c.args.net.now in
    let all = c.args.all.now in
    let place = c.args.place in
    let are = c.deref-2.ensures.value ∙ c.in_ok-places.ensures ∙ ap (λ marks. nodes_behind net marks all) (c.deref.ensures.value ∙ c.in_ok-marks.ensures) ∙ behind_are net all place in
    c.in_ok-met.ensures there ∙ ap (λ (places : List ℕ). (place == there) || list_any (λ one. one == there) places) are
