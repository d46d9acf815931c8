use Rattle.std.proofs.Common.{◌∙◌, ◌<◌, List, ℕ, Option, ap, length, subst, sym}
use Rattle.std.proofs.lemmas.Bool.Decides.{Decides-at}
use Rattle.sweep.specs.Graph.{GraphState, IsGraph}
use Rattle.sweep.specs.Recabled.{manager_switch}
use Rattle.sweep.specs.Rounds.{AreDistances, AreInside, serve}
use Rattle.sweep.specs.declared.graph.GraphLink.{GraphLink}
use Rattle.sweep.specs.declared.graph.GraphPort.{GraphPort}
use Rattle.sweep.proofs.ServedLemmas.{are_inside, manager_there, serve_decides}
use Rattle.sweep.proofs.graph.Graph.is_whole.Goals as goal

pub distances-requires-clause-inside : goal.distances-requires-clause-inside
distances-requires-clause-inside c =
    let graph : GraphState = c.args.self.now in
    let is : IsGraph graph = subst IsGraph c.self.view_is c.self.invariant in
    let rows = c.deref.ensures.value ∙ ap (λ (graph : GraphState). graph.rows) c.self.view_is in
    subst (λ (rows : List (List GraphLink)). AreInside rows) (sym rows) (are_inside graph is)

pub distances-requires-clause-there : goal.distances-requires-clause-there
distances-requires-clause-there c =
    let graph : GraphState = c.args.self.now in
    let is : IsGraph graph = subst IsGraph c.self.view_is c.self.invariant in
    let rows = c.deref.ensures.value ∙ ap (λ (graph : GraphState). graph.rows) c.self.view_is in
    rw (c.manager_switch.ensures) (subst (λ (rows : List (List GraphLink)). manager_switch graph < length rows) (sym rows) (manager_there graph is))

pub returns : goal.returns
returns c =
    let graph : GraphState = c.args.self.now in
    let is : IsGraph graph = subst IsGraph c.self.view_is c.self.invariant in
    let rows = c.deref.ensures.value ∙ ap (λ (graph : GraphState). graph.rows) c.self.view_is in
    let found : List (Option ℕ) = c.in_ok-found.found.items in
    let from : AreDistances graph.rows c.manager_switch.result found = subst (λ (rows : List (List GraphLink)). AreDistances rows c.manager_switch.result found) rows c.in_ok-found.ensures in
    let are : AreDistances graph.rows (manager_switch graph) found = subst (λ (place : ℕ). AreDistances graph.rows place found) c.manager_switch.ensures from in
    Decides-at _ (serve graph.rows graph.ports found)
    (c.serve.ensures
    ∙ ap (λ (rows : List (List GraphLink)). serve rows c.deref-3.result.now c.deref-4.result.now) (c.deref-2.ensures.value ∙ ap (λ (graph : GraphState). graph.rows) c.self.view_is)
    ∙ ap (λ (ports : List GraphPort). serve graph.rows ports c.deref-4.result.now) (c.deref-3.ensures.value ∙ ap (λ (graph : GraphState). graph.ports) c.self.view_is)
    ∙ ap (serve graph.rows graph.ports) c.deref-4.ensures.value)
    (serve_decides graph is found are)
