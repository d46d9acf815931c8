use Rattle.std.proofs.Common.{◌∙◌, subst, sym}
use Rattle.std.proofs.lemmas.Option.{slice_get-get_or}
use Rattle.table_push.proofs.GroupMaskLemmas.{all_marked, marked_more, marked_passed, none_marked, port_masks_are}
use Rattle.updn_routes.specs.Routes.{AreRoutes}
use Rattle.table_push.proofs.groups.port_masks.Goals.{in-Some, in-None}
use Rattle.table_push.proofs.groups.port_masks.Goals as goal

pub loop-index-init : goal.loop-index-init
loop-index-init c = none_marked c.args.routes.now.between.homes

pub loop-index-preserved : goal.loop-index-preserved
loop-index-preserved c = elim c.match-member_home.branch [
  | in-Some w ↦
      marked_more c.args.routes.now.between.homes c.loop-index.index _ w.port_bit.result c.args.lids.now w.in-Some.home c.loop-index.ports c.match-member_home.ports
      c.loop-index.switches c.match-member_home.switches (slice_get-get_or c.args.lids.now c.loop-index.index _ c.loop-index-test.true)
      (sym c.member_home.ensures.home ∙ w.in-Some.is) w.in-Some.ensures.low w.port_bit.ensures w.ports-is w.switches-is c.loop-index.invariant
  | in-None w ↦
      marked_passed c.args.routes.now.between.homes c.loop-index.index _ c.args.lids.now c.loop-index.ports c.match-member_home.ports
      c.loop-index.switches c.match-member_home.switches (slice_get-get_or c.args.lids.now c.loop-index.index _ c.loop-index-test.true)
      (sym c.member_home.ensures.home ∙ w.in-None.is) w.ports-is w.switches-is c.loop-index.invariant
]

pub masks_of-requires : goal.masks_of-requires
masks_of-requires c place low = (c.requires place low).is_low

pub returns : goal.returns
returns c =
    port_masks_are c.args.routes.now c.args.tree.now c.args.lids.now c.loop-index.ports c.masks_of.result c.loop-index.switches c.known_of_graph.ensures
    (subst AreRoutes c.between.ensures c.known_routes.ensures) c.requires
    (all_marked c.args.routes.now.between.homes c.loop-index.index c.args.lids.now c.loop-index.ports c.loop-index.switches c.loop-index-test.false c.loop-index.invariant)
    c.masks_of.ensures.spread
