use Rattle.std.proofs.Common.{◌∙◌, get_or, subst, arith}
use Rattle.std.proofs.lemmas.List.{length-set}
use Rattle.table_push.proofs.TreeLinkLemmas.{node_of, parent_by}
use Rattle.table_push.proofs.TreeMaskLemmas.{tree_more}
use Rattle.updn_routes.specs.Routes.{AreRoutes}
use Rattle.table_push.proofs.trees.tree_of.Goals as goal

pub below_sets-sets-requires : goal.below_sets-sets-requires
below_sets-sets-requires c s =
    parent_by c.args.routes.now (subst AreRoutes c.between.ensures c.known_routes.ensures) c.known_of_graph.ensures s c.tree_links-links.result
    c.tree_links-links.ensures.long c.tree_links-links.ensures.links

pub loop-switch-preserved : goal.loop-switch-preserved
loop-switch-preserved c = record {
  below = length-set _ _ _ ∙ c.loop-switch.invariant.below;
  outside = length-set _ _ _ ∙ c.loop-switch.invariant.outside;
  parents = length-set _ _ _ ∙ c.loop-switch.invariant.parents;
  ups = length-set _ _ _ ∙ c.loop-switch.invariant.ups;
  ends = length-set _ _ _ ∙ c.loop-switch.invariant.ends;
  are = tree_more c.args.routes.now c.loop-switch.switch _ _ _ _ _ _ _ _ _ _
      (omega (arith, c.loop-switch.invariant.below, c.loop-switch-test.true)) (omega (arith, c.loop-switch.invariant.outside, c.loop-switch-test.true))
      (omega (arith, c.loop-switch.invariant.parents, c.loop-switch-test.true)) (omega (arith, c.loop-switch.invariant.ups, c.loop-switch-test.true))
      (omega (arith, c.loop-switch.invariant.ends, c.loop-switch-test.true))
      (node_of c.args.routes.now (subst AreRoutes c.between.ensures c.known_routes.ensures) c.known_of_graph.ensures c.loop-switch.switch
      (get_or c.below_sets-sets.result c.loop-switch.switch 0) _ _ _ _ (c.tree_links-links.ensures.links c.loop-switch.switch c.loop-switch-test.true) c.parent_of.ensures
      (c.below_sets-sets.ensures c.loop-switch.switch c.loop-switch-test.true) c.loop-switch-test.element_fits.fits c.up_bit.ensures c.end_bit.ensures)
      c.loop-switch.invariant.are;
}
