use Rattle.std.proofs.Common.{subst, arith}
use Rattle.table_push.proofs.PlaceLemmas.{nothing_looked_at, slot_looked_at}
use Rattle.table_push.proofs.TreeBitLemmas.{wanted_stays}
use Rattle.updn_routes.specs.Routes.{AreRoutes}
use Rattle.table_push.proofs.places.places_that_change.Goals as goal

pub loop-slot-init : goal.loop-slot-init
loop-slot-init c = nothing_looked_at c.args.routes.now.between.homes c.args.tree.now c.args.before.now c.args.after.now c.switches_of-switches_before.result c.switches_of-switches_after.result
    c.homes_that_change-places.result c.homes_that_change-places.ensures

pub loop-slot-preserved : goal.loop-slot-preserved
loop-slot-preserved c = slot_looked_at c.args.routes.now.between.homes c.args.tree.now c.args.before.now c.args.after.now c.switches_of-switches_before.result c.switches_of-switches_after.result
    c.loop-slot.slot c.loop-slot.places c.places_turned-places.result c.places_turned-places.ensures c.loop-slot.invariant

pub returns : goal.returns
returns c place low unmarked =
    wanted_stays c.args.routes.now c.args.tree.now place c.args.partition c.args.before.now c.args.after.now c.switches_of-switches_before.result c.switches_of-switches_after.result
    c.requires.partition c.known_of_graph.ensures (subst AreRoutes c.between.ensures c.known_routes.ensures) low c.requires.tree c.switches_of-switches_before.ensures c.switches_of-switches_after.ensures
    (λ mlid number. c.loop-slot.invariant.own place mlid number low unmarked)
    (λ i within. c.loop-slot.invariant.ways place i low (omega (arith, within, c.loop-slot-test.false)) unmarked)
