use Rattle.std.proofs.Common.{◌≡◌, ◌∷◌, None, replicate}
use Rattle.sa_store.proofs.mlid_range.slots_from.Given as goal

abbrev pub invariant-loop-slot : goal.invariant-loop-slot
invariant-loop-slot l = l.slots.items ≡ l.fn.first ∷ replicate l._slot None
