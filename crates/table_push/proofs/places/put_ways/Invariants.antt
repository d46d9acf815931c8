use Rattle.std.proofs.Common.{ℕ, ◌≡◌, ◌<◌, ◌==◌, ◌||◌, length, get_or}
use Rattle.std.specs.Int.{bit_at}
use Rattle.table_push.specs.TreeSteps.{leads_up, some_lead_down}
use Rattle.table_push.proofs.places.put_ways.Given as goal

-- with the ports towards the first switches
abbrev pub invariant-loop-child : goal.invariant-loop-child
invariant-loop-child l = record {
  long : length l.bits ≡ 32;
  are : (i number : ℕ) → i < 32 → (bit_at (get_or l.bits i 0) number == 1)
      ≡ (((bit_at (get_or l.fn.bits i 0) number == 1) || leads_up l.fn.tree (get_or l.fn.switches i 0) l.fn.place number)
      || some_lead_down l.fn.tree l.child (get_or l.fn.switches i 0) l.fn.place number);
}
