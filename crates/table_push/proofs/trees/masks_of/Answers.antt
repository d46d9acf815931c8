use Rattle.std.proofs.Common.{◌∙◌, ap, get_or, length, arith}
use Rattle.std.proofs.lemmas.List.{length-set}
use Rattle.table_push.proofs.TreeMaskLemmas.{down_more, no_down, none_spread, ups_are}
use Rattle.table_push.proofs.trees.masks_of.Goals.{in-Some, in-None}
use Rattle.table_push.proofs.trees.masks_of.Goals as goal

pub loop-switch-init : goal.loop-switch-init
loop-switch-init c = record {
  long = c.with_ups-masks.ensures.long;
  are = λ s number low. ups_are c.args.tree.now (get_or c.args.row.now s 0) (get_or c.with_ups-masks.result s 0) c.args.switches s number (c.with_ups-masks.ensures.ups s low);
}

pub loop-switch-preserved : goal.loop-switch-preserved
loop-switch-preserved c = elim c.match-tree-switch.branch [
  | in-Some w ↦ record {
    long = ap length w.masks-is ∙ length-set _ _ _ ∙ c.loop-switch.invariant.long;
    are = λ s number low. down_more c.args.tree.now c.args.row.now c.loop-switch.masks c.match-tree-switch.masks c.args.switches c.loop-switch.switch w.in-Some.parent w.where_meets.result s number
        w.in-Some.is (omega (arith, c.loop-switch.invariant.long, c.requires c.loop-switch.switch c.loop-switch-test.true w.in-Some.parent w.in-Some.is))
        w.where_meets.ensures w.masks-is (c.loop-switch.invariant.are s number low);
  }
  | in-None w ↦ record {
    long = ap length w.masks-is ∙ c.loop-switch.invariant.long;
    are = λ s number low. no_down c.args.tree.now c.args.row.now c.loop-switch.masks c.match-tree-switch.masks c.args.switches c.loop-switch.switch s number
        w.in-None.is w.masks-is (c.loop-switch.invariant.are s number low);
  }
]

pub returns-then-switches-eq0-clause-spread : goal.returns-then-switches-eq0-clause-spread
returns-then-switches-eq0-clause-spread c = none_spread c.args.tree.now c.args.row.now c.args.switches c.if-switches-eq0.true
