use Rattle.std.proofs.Common.{◌∙◌, arith, le_antisymm, sym}
use Rattle.sa_store.proofs.PlaceLemmas.{place_is}
use Rattle.sa_store.proofs.store.places_by_guid.Goals as goal

pub returns : goal.returns
returns c guid = rw (le_antisymm c.loop-place-test.false (omega arith)) at (c.loop-place.invariant guid) ∙ sym (place_is guid c.args.kept.now)
