use Rattle.std.proofs.Common.{◌≡◌, ◌+◌, ◌-◌, ◌<◌, arith, le_antisymm, length, nat_eq, refl}
use Rattle.std.proofs.Math.Seq.{drop-length}
use Rattle.indexmap.specs.IndexMap.{get}
use Rattle.subnet_core.proofs.LookupLemmas.{found_more}
use Rattle.subnet_core.proofs.lookup.places_by_guid.Goals as goal

pub loop-place-init : goal.loop-place-init
loop-place-init c guid = rw (c.new-places.ensures.empty, drop-length c.args.ports.now) refl

pub loop-place-preserved : goal.loop-place-preserved
loop-place-preserved c guid =
    let next : c.loop-place.place - 1 + 1 ≡ c.loop-place.place = omega (arith, c.loop-place-test.true) in
    let within : c.loop-place.place - 1 < length c.args.ports.now = omega (arith, c.loop-place-test.true, c.loop-place.auto.place) in
    found_more c.args.ports.now (c.loop-place.place - 1) (get nat_eq c.loop-place.places) (get nat_eq c.insert.new.self) _ guid within
    (rw next (c.loop-place.invariant guid)) (c.in_ok-insert.ensures.updates.0 guid)

pub returns : goal.returns
returns c guid = rw (le_antisymm c.loop-place-test.false (omega arith)) at c.loop-place.invariant guid
