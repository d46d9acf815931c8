use Rattle.std.proofs.Common.{List, ap, subst, sym, ◌∙◌}
use Rattle.sweep.specs.Graph.{GraphState, IsGraph, graph_with}
use Rattle.sweep.specs.Recabled.{rows_with}
use Rattle.sweep.specs.declared.graph.GraphLink.{GraphLink}
use Rattle.sweep.proofs.RecabledLemmas.{mended_is_graph}
use Rattle.sweep.proofs.graph.Graph.with.Goals as goal

pub with_rows-requires : goal.with_rows-requires
with_rows-requires c =
    let graph : GraphState = c.args.self.now in
    let is : IsGraph graph = subst IsGraph c.self.view_is c.self.invariant in
    let rows = c.in_ok-rows.ensures ∙ ap (rows_with c.args.a c.args.b) (c.deref.ensures.value ∙ ap (λ (graph : GraphState). graph.rows) c.self.view_is) in
    subst (λ (rows : List (List GraphLink)). IsGraph (graph_with graph.manager graph.switches rows graph.ports)) (sym rows)
    (mended_is_graph graph is c.args.a c.args.b c.requires)
