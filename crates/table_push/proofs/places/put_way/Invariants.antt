use Rattle.std.proofs.Common.{ℕ, ◌≡◌, ◌≤◌, ◌<◌, bit_or, length, get_or}
use Rattle.table_push.specs.TreeSteps.{where_meets}
use Rattle.table_push.proofs.places.put_way.Given as goal

-- for the first multicast LIDs
abbrev pub invariant-loop-slot : goal.invariant-loop-slot
invariant-loop-slot l = record {
  long : length l.bits ≡ 32;
  are : (i : ℕ) → i < l.slot → get_or l.bits i 0 ≡ bit_or (get_or l.fn.bits i 0) (where_meets (get_or l.fn.switches i 0) l.fn.set l.fn.port);
  rest : (i : ℕ) → l.slot ≤ i → get_or l.bits i 0 ≡ get_or l.fn.bits i 0;
}
