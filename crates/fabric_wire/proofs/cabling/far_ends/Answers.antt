use Rattle.std.proofs.Common.{le_antisymm, refl, arith}
use Rattle.std.proofs.Math.Seq.{drop-length}
use Rattle.fabric_wire.proofs.CablingLemmas.{far_end_more, places_more_ends}
use Rattle.fabric_wire.proofs.cabling.far_ends.Goals as goal

pub loop-index-init : goal.loop-index-init
loop-index-init c = record {
  far = λ port. rw (c.new-far_ends.ensures, drop-length c.args.cables.now) refl;
  places = rw (drop-length c.args.cables.now) refl;
}

pub loop-index-preserved : goal.loop-index-preserved
loop-index-preserved c = record {
  far = λ port. far_end_more c.args.cables.now c.loop-index.index port _ _ _ c.loop-index-test.true c.loop-index.auto.index
      (c.loop-index.invariant.far port) (c.in_ok-put.ensures.far port) (c.in_ok-put-2.ensures.far port);
  places = places_more_ends c.args.cables.now c.loop-index.index _ _ _ c.loop-index-test.true c.loop-index.auto.index
      c.loop-index.invariant.places c.in_ok-put.ensures.here c.in_ok-put.ensures.places c.in_ok-put-2.ensures.here c.in_ok-put-2.ensures.places;
}

pub returns-clause-far : goal.returns-clause-far
returns-clause-far c port = rw (le_antisymm c.loop-index-test.false (omega arith)) at c.loop-index.invariant.far port

pub returns-clause-places : goal.returns-clause-places
returns-clause-places c = rw (le_antisymm c.loop-index-test.false (omega arith)) at c.loop-index.invariant.places
