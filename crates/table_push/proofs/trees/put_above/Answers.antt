use Rattle.std.proofs.Common.{ℕ, ◌≡◌, ◌+◌, ◌∙◌, ap, refl, sym, get_or, Some, arith}
use Rattle.table_push.specs.MaskSteps.{is_that_port}
use Rattle.table_push.specs.TreeSteps.{is_up_to}
use Rattle.updn_routes.specs.Routes.{SwitchRoutesState}
use Rattle.updn_routes.specs.Sides.{is_below}
use Rattle.table_push.proofs.AboveLemmas.{both_put, put_as, up_is_below, up_more, up_none, way_more}
use Rattle.table_push.proofs.TreeLinkLemmas.{above_by}
use Rattle.table_push.proofs.trees.put_above.Goals as goal

pub loop-hop-init : goal.loop-hop-init
loop-hop-init c = record {
  at_is = refl;
  put = put_as (is_that_port (Some c.args.switch)) (is_up_to c.args.routes.now 0 c.args.switch) c.args.switch _ _ (up_none c.args.routes.now c.args.switch) c.put_bit.ensures;
}

pub loop-hop-preserved : goal.loop-hop-preserved
loop-hop-preserved c = record {
  at_is = way_more c.args.routes.now c.loop-hop.hop c.args.switch c.loop-hop.at _ c.loop-hop.invariant.at_is (c.parent_of_some-at.ensures ∙ above_by c.args.routes.now c.args.links.now c.requires.links c.loop-hop.at);
  put = both_put (is_up_to c.args.routes.now c.loop-hop.hop c.args.switch) (is_that_port c.parent_of_some-at.result) (is_up_to c.args.routes.now (c.loop-hop.hop + 1) c.args.switch) c.args.switch
      _ _ _ (λ s. up_more c.args.routes.now c.loop-hop.hop c.args.switch s c.loop-hop.at _ c.loop-hop.invariant.at_is (c.parent_of_some-at.ensures ∙ above_by c.args.routes.now c.args.links.now c.requires.links c.loop-hop.at)) c.loop-hop.invariant.put c.put_bit-in-loop-hop.ensures;
}

pub returns : goal.returns
returns c =
    let deep = c.depth_of-hop-end.ensures ∙ ap (λ (between : SwitchRoutesState). get_or between.depths c.args.switch 0) c.between-between.ensures in
    let all : c.loop-hop.hop ≡ get_or c.args.routes.now.between.depths c.args.switch 0 = omega (arith, c.loop-hop-test.false, c.loop-hop.auto.hop-end, deep) in
    put_as (is_up_to c.args.routes.now c.loop-hop.hop c.args.switch) (λ s. is_below c.args.routes.now.between.rows c.args.routes.now.between.depths s c.args.switch) c.args.switch _ _
    (λ s. sym (ap (λ (hops : ℕ). is_up_to c.args.routes.now hops c.args.switch s) all ∙ up_is_below c.args.routes.now c.args.switch s)) c.loop-hop.invariant.put
