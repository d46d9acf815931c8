use Rattle.std.proofs.Common.{arith}
use Rattle.table_push.proofs.PlaceLemmas.{all_turned, alike_unturned, none_turned, turned_more}
use Rattle.table_push.proofs.ReachLemmas.{port_bit}
use Rattle.table_push.proofs.places.places_turned.Goals as goal

pub loop-switch-init : goal.loop-switch-init
loop-switch-init c = none_turned c.args.tree.now c.args.before c.args.after 0

pub loop-switch-preserved : goal.loop-switch-preserved
loop-switch-preserved c =
    turned_more c.args.tree.now c.args.before c.args.after c.loop-switch.switch c.loop-switch.places _ c.where_turned-places.result _
    c.where_turned-places-in-loop-switch.result c.loop-switch-test.true (λ s low. port_bit c.loop-switch.switch s c.loop-switch-test.true) c.where_turned-places.ensures
    c.place_bit.ensures c.where_turned-places-in-loop-switch.ensures c.loop-switch.invariant

pub returns : goal.returns
returns c =
    all_turned c.args.tree.now c.args.before c.args.after c.loop-switch.switch c.loop-switch.places (omega (arith, c.loop-switch-test.false))
    (omega (arith, c.loop-switch.auto.switch-end)) c.loop-switch.invariant

pub returns-then-before-after : goal.returns-then-before-after
returns-then-before-after c s low none = alike_unturned c.args.tree.now c.args.before c.args.after s c.if-before-after.true
