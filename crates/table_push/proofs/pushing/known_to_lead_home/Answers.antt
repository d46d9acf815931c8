use Rattle.std.proofs.Common.{ℕ, ◌==◌, subst, List}
use Rattle.std.specs.List.{IsDistinct}
use Rattle.sweep.specs.Graph.{IsGraph}
use Rattle.updn_routes.proofs.AnswerLemmas.{all_routed}
use Rattle.updn_routes.specs.Routes.{AreRoutes}
use Rattle.table_push.proofs.pushing.known_to_lead_home.Goals as goal

pub returns : goal.returns
returns c = record {
  graph = subst IsGraph c.graph.ensures c.known_graph.ensures;
  of = c.known_of_graph.ensures;
  own_lids = subst (λ (lids : List ℕ). IsDistinct (λ a b. a == b) lids) c.lids.ensures c.known_distinct.ensures.own;
  chosen = subst AreRoutes c.between.ensures c.known_routes.ensures;
  routed = all_routed c.args.routes.now.between (subst AreRoutes c.between.ensures c.known_routes.ensures);
  reached = c.requires;
}
