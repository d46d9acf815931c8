use Rattle.std.proofs.Common.{◌≡◌, arith}
use Rattle.sa_store.proofs.mlid_range.slots_from.Goals as goal

pub returns : goal.returns
returns c =
    let all : c.loop-slot._slot ≡ 31 = omega (arith, c.loop-slot-test.false) in
    rw all at c.loop-slot.invariant
