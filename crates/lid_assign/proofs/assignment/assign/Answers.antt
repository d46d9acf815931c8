use Rattle.std.proofs.Common.{◌≡◌, ap, filter, refl, subst, ◌∙◌}
use Rattle.std.specs.List.Sorted.{IsPermutation}
use Rattle.sweep.specs.Graph.{end_guids}
use Rattle.lid_assign.proofs.LidLemmas.{assigned, is_other}
use Rattle.lid_assign.proofs.assignment.assign.Goals as goal

pub invariant_of-result : goal.invariant_of-result
invariant_of-result c =
    let others = c.sort_unstable.new.self.items in
    let graph = c.args.graph.now in
    let kept : c.in_ok-others.others.items ≡ filter (is_other graph.manager) (end_guids graph.switches graph.ports) =
    c.in_ok-others.ensures ∙ ap (filter (is_other c.manager-manager.result)) (c.deref.ensures.value ∙ c.in_ok-guids.ensures)
    ∙ ap (λ m. filter (is_other m) (end_guids graph.switches graph.ports)) c.manager-manager.ensures in
    rw c.manager-manager.ensures
    (assigned graph others c.known_graph.ensures
    (subst (λ xs. IsPermutation xs others) kept c.sort_unstable.ensures.permutation)
    c.sort_unstable.ensures.sorted).order

pub returns : goal.returns
returns c =
    let others = c.sort_unstable.new.self.items in
    let graph = c.args.graph.now in
    let kept : c.in_ok-others.others.items ≡ filter (is_other graph.manager) (end_guids graph.switches graph.ports) =
    c.in_ok-others.ensures ∙ ap (filter (is_other c.manager-manager.result)) (c.deref.ensures.value ∙ c.in_ok-guids.ensures)
    ∙ ap (λ m. filter (is_other m) (end_guids graph.switches graph.ports)) c.manager-manager.ensures in
    let is =
    assigned graph others c.known_graph.ensures
    (subst (λ xs. IsPermutation xs others) kept c.sort_unstable.ensures.permutation)
    c.sort_unstable.ensures.sorted in
    rw c.manager-manager.ensures
    (record { lids = is.lids; order = record { others = others; guids_are = refl; stand = is.order } })
